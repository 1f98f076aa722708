use Rattle.std.proofs.Common.{◌≡◌, ℕ, ap, sym, subst, ◌∙◌}
use Rattle.std.proofs.lemmas.Result.{IfOk-weaker}
use Rattle.dos_world.specs.World.{World, live_process}
use Rattle.debug_client.specs.Clients.{session_of}
use Rattle.debug_connection.specs.Keeping.{texts_of}
use Rattle.debug_session.specs.Sessions.{Session}
use Rattle.debug_session.specs.Tables.{descriptor_lines, end_lines}
use Rattle.debugger.specs.Standing.{SessionView, IsSessionOf}
use Rattle.debugger.proofs.Telling.{shown_so}
use Rattle.debugger.proofs.session.Session.seen_ends.Goals as goal

pub returns : goal.returns
returns c =
    IfOk-weaker c.end_lines.result _ _
    (λ lines told.
    shown_so c.self.view_is c.state.result.now c.state.ensures.state c.self.invariant
    c.requires.running
    (λ s. texts_of lines.items ≡ end_lines s c.args.process)
    (λ r at q output error h.
    let s : Session = session_of c.self.inside.client r at in
    let shows : IsSessionOf c.args.self.now s =
    subst (λ (x : SessionView). IsSessionOf x s) c.self.view_is h.shows in
    let p : ℕ = c.asked_process.result in
    told q
    ∙ ap (λ (x : World). descriptor_lines (live_process x p)) (sym h.world)
    ∙ ap descriptor_lines (c.asked_process.ensures.same s shows)))
    c.end_lines.ensures
