use Rattle.std.proofs.Common.{◌≡◌, ℕ, ap, sym, subst, ◌∙◌, Option}
use Rattle.std.proofs.lemmas.Result.{IfOk-weaker}
use Rattle.dos_world.specs.World.{Holdings, World, live_process}
use Rattle.kernel_calls.specs.StateWorld.{world_of}
use Rattle.debug_client.specs.Clients.{session_of}
use Rattle.debug_connection.specs.Keeping.{texts_of}
use Rattle.debug_session.specs.Pages.{pages_lines, pages_lines_in}
use Rattle.debug_session.specs.Sessions.{Session}
use Rattle.debugger.specs.Standing.{SessionView, IsSessionOf}
use Rattle.debugger.proofs.Unsent.{pages_unsent}
use Rattle.debugger.proofs.Telling.{shown_so}
use Rattle.debugger.proofs.session.Session.seen_pages.Goals as goal

pub returns : goal.returns
returns c =
    IfOk-weaker c.pages_lines.result _ _
    (λ lines told.
    shown_so c.self.view_is c.state.result.now c.state.ensures.state c.self.invariant
    c.requires.running
    (λ s. texts_of lines.items ≡ pages_lines s c.args.process)
    (λ r at q output error h.
    let s : Session = session_of c.self.inside.client r at in
    let shows : IsSessionOf c.args.self.now s =
    subst (λ (x : SessionView). IsSessionOf x s) c.self.view_is h.shows in
    let w : World = world_of q c.state.result.now in
    let p : ℕ = c.asked_process.result in
    told q
    ∙ sym (pages_unsent output error w (live_process w p))
    ∙ ap (λ (x : World). pages_lines_in x (live_process x p)) (sym h.world)
    ∙ ap (λ (o : Option Holdings). pages_lines_in at.moment.world o)
    (c.asked_process.ensures.same s shows)))
    c.pages_lines.ensures
