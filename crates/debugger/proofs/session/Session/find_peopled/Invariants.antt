use Rattle.std.proofs.Common.{ℕ, ◌≡◌, ◌≤◌, false, true}
use Rattle.debug_session.specs.Goals.{is_somebody_shown}
use Rattle.debug_session.specs.Positions.{Position, position_after}
use Rattle.debug_session.specs.Sessions.{Session}
use Rattle.recorded_walk.specs.Playbacks.{IsStartOf}
use Rattle.debugger.specs.Standing.{IsAsked, IsSame, StillKnows, here}
use Rattle.debugger.specs.Halting.{peopled_at}
use Rattle.debugger.proofs.Reached.{reached_of}
use Rattle.debugger.proofs.session.Session.find_peopled.Given as goal

abbrev pub invariant-loop : goal.invariant-loop
invariant-loop l = record {
  same : IsSame l.fn.self l.self;
  known : StillKnows l.fn.self l.self;
  running : l.self.failed ≡ false;
  within : l.peopled ≤ l.self.furthest;
  reached : (start : Position) → IsStartOf l.fn.self.playback start
      → reached_of l.round l.made start ≡ reached_of l.round l.made (here l.self start);
  peopled : (start : Position) (s : Session) → IsStartOf l.fn.self.playback start
      → IsAsked l.fn.self start s
      → is_somebody_shown s (here l.self start).moment.world ≡ false
      → position_after l.peopled start ≡ peopled_at s (here l.self start);
}
