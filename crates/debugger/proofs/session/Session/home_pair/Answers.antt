use Rattle.std.proofs.Common.{◌≡◌, ap, sym, subst, ◌∙◌, true}
use Rattle.debug_session.specs.Sessions.{Session, home_pair}
use Rattle.debug_client.specs.Births.{has_home}
use Rattle.debug_client.specs.Clients.{session_of}
use Rattle.debugger.specs.Standing.{SessionView, recording_of}
use Rattle.debugger.proofs.Seen.{births_seen}
use Rattle.debugger.proofs.session.Session.home_pair.Goals as goal

pub returns : goal.returns
returns c start s is_start asked =
    let r = recording_of c.args.self.now in
    let births = births_seen _ _ c.self.view_is c.self.invariant c.requires.running start is_start
    s asked in
    let known : has_home c.self.inside.births c.args.thread ≡ true =
    ap (λ (a : SessionView). has_home a.births c.args.thread) c.self.view_is
    ∙ c.requires.known in
    c.home_pair.ensures r s.position births known
    ∙ ap (λ (a : SessionView). home_pair (session_of a.client r s.position) c.args.thread)
    c.self.view_is
    ∙ ap (λ (u : Session). home_pair u c.args.thread) (sym asked.is)
