use Rattle.std.proofs.Common.{◌≡◌, ◌∙◌, ap, sym, Bool, true, false}
use Rattle.std.specs.Prelude.{is_some, ◌||◌}
use Rattle.dos_world.specs.World.{World, process_at}
use Rattle.debug_client.specs.Clients.{session_of}
use Rattle.debug_session.specs.Files.{is_known}
use Rattle.debug_session.specs.Sessions.{Session, is_shown}
use Rattle.debugger.proofs.Telling.{shown_so}
use Rattle.debugger.proofs.session.Session.is_known.Goals as goal

pub returns-then-is_shown : goal.returns-then-is_shown
returns-then-is_shown c =
    let p = c.args.process in
    shown_so c.self.view_is c.state-state.result.now c.state-state.ensures.state c.self.invariant
    c.requires
    (λ s. true ≡ is_known s p)
    (λ r at q output error h.
    let s : Session = session_of c.self.inside.client r at in
    let w : World = at.moment.world in
    let shown : is_shown s w p ≡ true =
    ap (λ (v : World). is_shown s v p) h.world ∙ sym (c.is_shown.ensures r at q output error)
    ∙ c.if-is_shown.true in
    sym (ap (λ (b : Bool). b || is_some (process_at w p)) shown))

pub returns : goal.returns
returns c =
    let p = c.args.process in
    shown_so c.self.view_is c.state-state.result.now c.state-state.ensures.state c.self.invariant
    c.requires
    (λ s. c.is_given.result ≡ is_known s p)
    (λ r at q output error h.
    let s : Session = session_of c.self.inside.client r at in
    let w : World = at.moment.world in
    let hidden : is_shown s w p ≡ false =
    ap (λ (v : World). is_shown s v p) h.world ∙ sym (c.is_shown.ensures r at q output error)
    ∙ c.if-is_shown.false in
    c.is_given.ensures q output error
    ∙ ap (λ (v : World). is_some (process_at v p)) (sym h.world)
    ∙ sym (ap (λ (b : Bool). b || is_some (process_at w p)) hidden))
