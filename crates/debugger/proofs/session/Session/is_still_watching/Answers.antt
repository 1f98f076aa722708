use Rattle.std.proofs.Common.{◌≡◌, false, sym}
use Rattle.std.specs.Prelude.{◌&&◌}
use Rattle.dos_world.specs.World.{World}
use Rattle.kernel_calls.specs.StateWorld.{sent, world_of}
use Rattle.debug_session.specs.Sessions.{is_process_live}
use Rattle.debugger.specs.Standing.{here}
use Rattle.debugger.proofs.Seen.{of_state}
use Rattle.debugger.proofs.Watching.{first_fails, second_of}
use Rattle.debugger.proofs.session.Session.is_still_watching.Goals as goal

pub returns-then-was_watching : goal.returns-then-was_watching
returns-then-was_watching c start is_start =
    of_state _ _ c.self.view_is c.self.invariant c.requires c.state-state.result.now
    c.state-state.ensures.state start is_start
    (λ (w : World). c.is_live.result
    ≡ (c.args.was_watching && is_process_live w c.args.process))
    (λ q o e. second_of c.args.was_watching
    (is_process_live (sent o e (world_of q c.state-state.result.now)) c.args.process)
    c.is_live.result
    (sym c.if-was_watching.true) c.is_live.ensures)

pub returns : goal.returns
returns c start is_start =
    first_fails c.args.was_watching
    (is_process_live (here c.args.self.now start).moment.world c.args.process)
    (sym c.if-was_watching.false)
