use Rattle.std.proofs.Common.{ℕ, ◌≡◌, drop, true}
use Rattle.std.specs.Prelude.{◌||◌, not}
use Rattle.std.specs.List.{list_all}
use Rattle.gdb_packets.specs.declared.resumptions.Resumption.{Resumption}
use Rattle.debug_session.specs.Actions.{is_stepping}
use Rattle.debug_session.specs.Forwards.{steps_nobody}
use Rattle.debug_session.specs.Positions.{Position}
use Rattle.recorded_walk.specs.Playbacks.{IsStartOf}
use Rattle.debugger.specs.Standing.{here}
use Rattle.debugger.proofs.session.Session.is_stepping_nobody.Given as goal

abbrev pub invariant-loop-resumption : goal.invariant-loop-resumption
invariant-loop-resumption l = (start : Position) → IsStartOf l.self.playback start
    → list_all (λ (r : Resumption). not (is_stepping r.action)
    || steps_nobody (here l.self start).moment.world r)
    (drop l.resumption-index l.resumptions)
    ≡ list_all (λ (r : Resumption). not (is_stepping r.action)
    || steps_nobody (here l.self start).moment.world r) l.resumptions
