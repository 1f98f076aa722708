use Rattle.std.proofs.Common.{◌≡◌, ℕ, Bool, Option, ap, sym, ◌∙◌}
use Rattle.std.specs.Prelude.{if◌then◌else◌}
use Rattle.debug_session.specs.Positions.{all_moments}
use Rattle.debug_session.specs.Homes.{is_some_number, home_of}
use Rattle.debug_session.specs.Sessions.{Session}
use Rattle.debug_session.specs.Current.{standing_thread}
use Rattle.debug_client.specs.Births.{has_home}
use Rattle.debug_client.specs.Clients.{ClientView, session_of}
use Rattle.debug_client.proofs.client.Client.name_process.Goals as goal

pub returns : goal.returns
returns c r at q output error a is =
    let now : ClientView = c.args.self.now in
    let s : Session = session_of now r at in
    let p = c.args.process in
    let b = c.args.births.now in
    let home : c.home.result ≡ home_of (all_moments at) now.thread =
    c.home.ensures.home (all_moments at) a (ap (has_home b) c.thread.ensures ∙ c.requires.current)
    ∙ ap (home_of (all_moments at)) c.thread.ensures in
    let other = sym (c.is_some_number.ensures ∙ ap (λ (o : Option ℕ). is_some_number p o) home)
    ∙ c.if-is_some_number.false in
    ap (λ (v : ClientView). session_of v r at) c.set_current.ensures
    ∙ ap (λ (t : ℕ). session_of (record now { process = p; thread = t }) r at)
    (c.standing_thread-thread.ensures r at q output error a is)
    ∙ sym (ap (λ (k : Bool). if k then record s { process = p }
    else record s { process = p; thread = standing_thread s p }) other)
