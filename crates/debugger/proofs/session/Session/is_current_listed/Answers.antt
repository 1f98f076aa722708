use Rattle.std.proofs.Common.{◌≡◌, ◌∙◌, ap}
use Rattle.debug_client.specs.Clients.{session_of}
use Rattle.debug_session.specs.Answers.{is_current_listed}
use Rattle.debug_session.specs.Sessions.{Session, is_among, listed}
use Rattle.debugger.proofs.Telling.{among_listed, shown_so}
use Rattle.debugger.proofs.session.Session.is_current_listed.Goals as goal

pub returns : goal.returns
returns c =
    shown_so c.self.view_is c.state.result.now c.state.ensures.state c.self.invariant c.requires
    (λ s. c.is_listed.result ≡ is_current_listed s)
    (λ r at q output error h.
    let s : Session = session_of c.self.inside.client r at in
    among_listed s c.deref.result.now c.thread.result c.is_listed.result c.is_listed.ensures
    (c.deref.ensures.value ∙ c.in_ok-listed.ensures r at q output error h.births h.world)
    ∙ ap (λ t. is_among t (listed s)) c.thread.ensures)
