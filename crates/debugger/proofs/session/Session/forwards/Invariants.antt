use Rattle.std.proofs.Common.{Global, List, Option, Vec, ℕ, ◌≡◌, ◌≤◌, false, true}
use Rattle.std.specs.Prelude.{IfSome}
use Rattle.gdb_packets.specs.declared.resumptions.Resumption.{Resumption}
use Rattle.debug_session.specs.Forwards.{forwards}
use Rattle.debug_session.specs.Positions.{Position}
use Rattle.debug_session.specs.Sessions.{Session}
use Rattle.recorded_walk.specs.Playbacks.{IsStartOf}
use Rattle.debug_client.specs.Births.{knows_named}
use Rattle.debugger.specs.Halting.{HasKept, forwards_from}
use Rattle.debugger.specs.Quiet.{StopsAtAddresses, is_nobody_stepping}
use Rattle.debugger.specs.Standing.{IsAsked, IsSame, SessionView, StillKnows, here}
use Rattle.debugger.proofs.session.Session.forwards.Given as goal

-- the addresses at which no resumption goes on unseen, where there are any
abbrev pub AreQuiet : SessionView → List Resumption → Option (Vec ℕ Global) → Type 0
AreQuiet k rs found = IfSome found (λ stops. (start : Position) (s : Session)
    → IsAsked k start s
    → StopsAtAddresses s stops.items × (is_nobody_stepping rs ≡ true))

abbrev pub invariant-loop : goal.invariant-loop
invariant-loop l = record {
  same : IsSame l.fn.self l.self;
  known : StillKnows l.fn.self l.self;
  running : l.self.failed ≡ false;
  named : knows_named l.self.births l.resumptions ≡ true;
  low : l.fn.self.playback.moves ≤ l.way.last;
  high : l.way.last ≤ l.self.playback.moves;
  halt : (start : Position) (s : Session) → IsStartOf l.fn.self.playback start
      → IsAsked l.fn.self start s → s.position ≡ here l.fn.self start
      → forwards s l.resumptions
      ≡ forwards_from s l.resumptions start l.way (here l.self start);
  kept : (start : Position) → IsStartOf l.fn.self.playback start
      → HasKept start l.fn.self.playback.moves l.self.playback.moves l.puts.items;
  quiet : AreQuiet l.fn.self l.resumptions l.stops;
}
