use Rattle.std.proofs.Common.{◌≡◌, drop, filter}
use Rattle.std.specs.Prelude.{find}
use Rattle.dos_world.specs.World.{first_of, live_threads}
use Rattle.debug_session.specs.Hits.{is_watcher}
use Rattle.debug_session.specs.Positions.{Position}
use Rattle.debug_session.specs.Sessions.{Session}
use Rattle.recorded_walk.specs.Playbacks.{IsStartOf}
use Rattle.debugger.specs.Standing.{IsAsked, here}
use Rattle.debugger.proofs.session.Session.lowest_watcher.Given as goal

abbrev pub invariant-loop-place : goal.invariant-loop-place
invariant-loop-place l = (start : Position) (s : Session)
    → IsStartOf l.self.playback start → IsAsked l.self start s
    → first_of (filter (is_watcher s l.resumptions (here l.self start).moment.world l.point)
    (live_threads (here l.self start).moment.world))
    ≡ find (is_watcher s l.resumptions (here l.self start).moment.world l.point)
    (drop l.place (live_threads (here l.self start).moment.world))
