use Rattle.std.proofs.Common.{◌≡◌, ◌≤◌, false}
use Rattle.playback_tests.proofs.playing.take_strides.Given as goal

abbrev pub invariant-loop-wanted : goal.invariant-loop-wanted
invariant-loop-wanted g l = record {
  running : l.play.failed ≡ false;
  further : l.fn.play.reached ≤ l.play.reached;
}
