use Rattle.std.proofs.Common.{◌≡◌, ◌≤◌, ◌-◌, false}
use Rattle.debug_session.specs.Positions.{Position}
use Rattle.recorded_walk.specs.Playbacks.{IsStartOf}
use Rattle.debugger.specs.Halting.{HasKept}
use Rattle.debugger.specs.Standing.{IsSame}
use Rattle.debugger.proofs.session.Session.puts_so_far.Given as goal

abbrev pub invariant-loop-self : goal.invariant-loop-self
invariant-loop-self l = record {
  same : IsSame l.fn.self l.self;
  running : l.self.failed ≡ false;
  within : l.self.playback.moves ≤ l.moves;
  kept : (start : Position) → IsStartOf l.fn.self.playback start
      → HasKept start 0 l.self.playback.moves l.puts.items;
}

abbrev pub decreases-loop-self : goal.decreases-loop-self
decreases-loop-self l = l.moves - l.self.playback.moves
