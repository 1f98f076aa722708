use Rattle.std.proofs.Common.{◌≡◌, ◌+◌, ◌*◌, ◌≤◌, ◌^◌, drop}
use Rattle.worker_pool.specs.Ran.{budgets_left}
use Rattle.worker_pool.proofs.workers.budgets_of.Given as goal

abbrev pub invariant-loop-pack : goal.invariant-loop-pack
invariant-loop-pack l =
    (l.sum + budgets_left (drop l.pack-index l.packs) ≡ budgets_left l.packs)
    × (l.sum ≤ l.pack-index * 2 ^ 32)
