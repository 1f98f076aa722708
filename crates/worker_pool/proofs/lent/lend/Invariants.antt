use Rattle.std.proofs.Common.{◌≡◌, ◌+◌, ◌≤◌, vec_len, vec_capacity, ◌++◌}
use Rattle.std.specs.Prelude.{reverse}
use Rattle.quantum_run.specs.Packs.{seen_by_view}
use Rattle.worker_pool.specs.Lending.{packs_of, See}
use Rattle.worker_pool.proofs.lent.lend.Given as goal

abbrev pub invariant-loop-pack : goal.invariant-loop-pack
invariant-loop-pack l =
    (packs_of l.lent.items ++ reverse l.packs.items ≡ l.fn.packs.items)
    × See (seen_by_view l.view) l.lent.items
    × (vec_len l.lent + vec_len l.packs ≡ vec_len l.fn.packs)
    × (vec_len l.fn.packs ≤ vec_capacity l.lent)
    × (vec_capacity l.packs ≡ vec_capacity l.fn.packs)

abbrev pub decreases-loop-pack : goal.decreases-loop-pack
decreases-loop-pack l = vec_len l.packs
