use Rattle.std.proofs.Common.{◌≡◌, drop}
use Rattle.std.specs.Prelude.{◌==◌, find}
use Rattle.debug_answers.proofs.waits.find_sleeper.Given as goal

abbrev pub invariant-loop-place : goal.invariant-loop-place
invariant-loop-place l =
    find (λ s. s.thread == l.thread) (drop l.place l.queue)
    ≡ find (λ s. s.thread == l.thread) l.queue
