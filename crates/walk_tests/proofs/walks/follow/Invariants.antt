use Rattle.std.proofs.Common.{◌≡◌, ◌≤◌, false}
use Rattle.dos_io.specs.Shims.{HasNoEnd}
use Rattle.walk_tests.proofs.walks.follow.Given as goal

abbrev pub invariant-loop-wanted : goal.invariant-loop-wanted
invariant-loop-wanted g l = record {
  running : l.walker.failed ≡ false;
  made : l.walker.made ≤ l.wanted-index;
  told : HasNoEnd (g.B.Border.state l.border).shim.told;
}
