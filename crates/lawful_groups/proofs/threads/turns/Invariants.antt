use Rattle.std.proofs.Common.{◌≡◌, ◌≤◌, drop, ◌+◌}
use Rattle.std.specs.Prelude.{count_by, ◌==◌}
use Rattle.lawful_groups.proofs.threads.turns.Given as goal

abbrev pub invariant-loop-i : goal.invariant-loop-i
invariant-loop-i l =
    (l.count + count_by (λ s. s.tid == l.tid) (drop l.i l.sleepers)
    ≡ count_by (λ s. s.tid == l.tid) l.sleepers) × (l.count ≤ l.i)
