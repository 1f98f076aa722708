use Rattle.std.proofs.Common.{◌≡◌, length}
use Rattle.dos_world.specs.World.{World}
use Rattle.debugger.proofs.Seen.{of_state}
use Rattle.debugger.proofs.session.Session.processes.Goals as goal

pub returns : goal.returns
returns c start is_start =
    of_state _ _ c.self.view_is c.self.invariant c.requires c.state.result.now
    c.state.ensures.state start is_start
    (λ (w : World). c.processes.result ≡ length w.processes) (λ q o e. c.processes.ensures)
