use Rattle.std.proofs.Common.{◌≡◌, ◌+◌, ◌-◌, ◌++◌}
use Rattle.dos_world.specs.Numbered.{run_of}
use Rattle.debug_client.proofs.numbers.run_of.Given as goal

abbrev pub invariant-loop-place : goal.invariant-loop-place
invariant-loop-place l =
    l.numbers.items ++ run_of (1 + l.place) (l.count - l.place) ≡ run_of 1 l.count
