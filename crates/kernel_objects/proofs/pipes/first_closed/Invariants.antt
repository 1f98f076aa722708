use Rattle.std.proofs.Common.{◌≡◌, ◌<◌, ℕ, [], true}
use Rattle.kernel_objects.specs.Pipework.{is_open_at}
use Rattle.kernel_objects.proofs.pipes.first_closed.Given as goal

-- those below are open
abbrev pub invariant-loop-pipe : goal.invariant-loop-pipe
invariant-loop-pipe l = (j : ℕ) → j < l.pipe
    → is_open_at (record { bytes = []; readers = l.readers; writers = l.writers }) j ≡ true
