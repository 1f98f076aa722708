use Rattle.std.proofs.Common.{◌≡◌, ℕ, ◌/◌, ap, sym, subst, ◌∙◌}
use Rattle.std.proofs.lemmas.Result.{IfOk-weaker}
use Rattle.dos_world.specs.World.{World, live_process, page_size}
use Rattle.kernel_calls.specs.StateWorld.{world_of}
use Rattle.debug_client.specs.Clients.{session_of}
use Rattle.debug_connection.specs.Keeping.{texts_of}
use Rattle.debug_session.specs.Pages.{page_lines, page_lines_in}
use Rattle.debug_session.specs.Sessions.{Session}
use Rattle.debug_session.specs.Tables.{process_asked}
use Rattle.debugger.specs.Standing.{SessionView, IsSessionOf}
use Rattle.debugger.proofs.Unsent.{page_same, page_unsent}
use Rattle.debugger.proofs.Telling.{shown_so}
use Rattle.debugger.proofs.session.Session.seen_page.Goals as goal

pub returns : goal.returns
returns c =
    IfOk-weaker c.page_lines.result _ _
    (λ lines told.
    shown_so c.self.view_is c.state.result.now c.state.ensures.state c.self.invariant
    c.requires.running
    (λ s. texts_of lines.items ≡ page_lines s c.args.address c.args.process)
    (λ r at q output error h.
    let s : Session = session_of c.self.inside.client r at in
    let shows : IsSessionOf c.args.self.now s =
    subst (λ (x : SessionView). IsSessionOf x s) c.self.view_is h.shows in
    let w : World = world_of q c.state.result.now in
    let p : ℕ = c.asked_process.result in
    let page : ℕ = c.args.address / page_size in
    told q
    ∙ sym (page_unsent output error w p page (live_process w p))
    ∙ ap (λ (x : World). page_lines_in x p page (live_process x p)) (sym h.world)
    ∙ page_same at.moment.world p (process_asked s c.args.process) page
    (c.asked_process.ensures.same s shows) (c.asked_process.ensures.number s shows)))
    c.page_lines.ensures
