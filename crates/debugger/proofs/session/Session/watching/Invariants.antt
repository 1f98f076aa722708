use Rattle.std.proofs.Common.{◌≡◌, length, map, take}
use Rattle.std.specs.Prelude.{◌&&◌}
use Rattle.debug_session.specs.Positions.{Position}
use Rattle.debug_session.specs.Sessions.{Session, is_belonging, is_process_live}
use Rattle.debug_session.specs.declared.points.Watchpoint.{Watchpoint}
use Rattle.recorded_walk.specs.Playbacks.{IsStartOf}
use Rattle.debugger.specs.Standing.{IsAsked, here}
use Rattle.debugger.proofs.session.Session.watching.Given as goal

abbrev pub invariant-loop-index : goal.invariant-loop-index
invariant-loop-index l = (length l.watching.items ≡ l.index)
    × ((start : Position) (s : Session) → IsStartOf l.self.playback start → IsAsked l.self start s
    → l.watching.items ≡ map (λ (point : Watchpoint). is_belonging s l.resumptions
    (here l.self start).moment.world point.process
    && is_process_live (here l.self start).moment.world point.process)
    (take l.index s.watchpoints))
