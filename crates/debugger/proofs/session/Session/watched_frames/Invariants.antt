use Rattle.std.proofs.Common.{◌≡◌, take}
use Rattle.std.specs.Prelude.{flat_map}
use Rattle.debug_session.specs.Positions.{Position}
use Rattle.recorded_walk.specs.Playbacks.{IsStartOf}
use Rattle.debugger.specs.Quiet.{frames_watched}
use Rattle.debugger.specs.Standing.{here}
use Rattle.debugger.proofs.session.Session.watched_frames.Given as goal

abbrev pub invariant-loop-index : goal.invariant-loop-index
invariant-loop-index l = (start : Position) → IsStartOf l.self.playback start
    → l.frames.items ≡ flat_map (frames_watched (here l.self start).moment.world)
    (take l.index l.self.client.watchpoints)
