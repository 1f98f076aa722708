use Rattle.std.proofs.Common.{◌≡◌, ◌≤◌, length, drop}
use Rattle.flat_machine.specs.Opening.{rising}
use Rattle.debug_client.proofs.numbers.rising.Given as goal

abbrev pub decreases-loop-left : goal.decreases-loop-left
decreases-loop-left l = l.left

abbrev pub invariant-loop-left : goal.invariant-loop-left
invariant-loop-left l = record {
  within : l.left ≤ length l.numbers;
  so_far : l.all.items ≡ rising (drop l.left l.numbers);
}
