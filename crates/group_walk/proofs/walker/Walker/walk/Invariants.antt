use Rattle.std.proofs.Common.{◌≡◌, ◌≤◌, ◌+◌, false}
use Rattle.dos_io.specs.Shims.{HasNoEnd}
use Rattle.group_walk.proofs.ManyMoves.{WalksOn}
use Rattle.group_walk.proofs.walker.Walker.walk.Given as goal

abbrev pub invariant-loop-left : goal.invariant-loop-left
invariant-loop-left g l = record {
  plays : WalksOn l.fn.self.config l.fn.moves l.left l.fn.self l.self
      (g.B.Border.state l.fn.border) (g.B.Border.state l.border);
  running : l.self.failed ≡ false;
  config : l.self.config ≡ l.fn.self.config;
  few : l.self.made + l.left ≤ l.fn.self.made + l.fn.moves;
  told : HasNoEnd (g.B.Border.state l.border).shim.told;
  follows : g.B.Border.follows l.fn.border l.border;
}

abbrev pub decreases-loop-left : goal.decreases-loop-left
decreases-loop-left g l = l.left
