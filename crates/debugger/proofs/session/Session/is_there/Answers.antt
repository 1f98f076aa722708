use Rattle.std.proofs.Common.{◌≡◌, ℕ, Option, ap, sym, ◌∙◌}
use Rattle.std.specs.Prelude.{is_some}
use Rattle.dos_world.specs.World.{World, thread_at}
use Rattle.debug_session.specs.Backwards.{is_there}
use Rattle.debugger.specs.Standing.{here}
use Rattle.debugger.proofs.Seen.{of_state}
use Rattle.debugger.proofs.session.Session.is_there.Goals as goal

pub returns-in-Some : goal.returns-in-Some
returns-in-Some c start s is_start asked =
    let w = (here c.args.self.now start).moment.world in
    of_state _ _ c.self.view_is c.self.invariant c.requires.running c.state.result.now
    c.state.ensures.state start is_start
    (λ (v : World). c.is_thread.result ≡ is_some (thread_at v c.in-Some.thread))
    (λ q o e. c.is_thread.ensures)
    ∙ ap (λ (o : Option ℕ). is_there s c.args.resumptions.now o w) (sym c.in-Some.is)

pub returns-in-None : goal.returns-in-None
returns-in-None c start s is_start asked =
    let w = (here c.args.self.now start).moment.world in
    c.is_anybody_there.ensures start s is_start asked
    ∙ ap (λ (o : Option ℕ). is_there s c.args.resumptions.now o w) (sym c.in-None.is)
