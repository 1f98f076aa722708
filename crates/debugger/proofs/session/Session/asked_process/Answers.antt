use Rattle.std.proofs.Common.{◌≡◌, ℕ, Option, ap, sym, subst, ◌∙◌}
use Rattle.std.specs.Prelude.{IsSome}
use Rattle.dos_world.specs.World.{World, live_process}
use Rattle.debug_session.specs.Answers.{current_world}
use Rattle.debug_client.specs.Clients.{session_of}
use Rattle.debug_session.specs.Sessions.{Session}
use Rattle.debug_session.specs.Tables.{process_asked}
use Rattle.debugger.specs.Standing.{SessionView}
use Rattle.debugger.proofs.Telling.{shown_so}
use Rattle.debugger.proofs.session.Session.asked_process.Goals as goal

pub returns-in-Some-clause-same : goal.returns-in-Some-clause-same
returns-in-Some-clause-same c =
    let p = c.process_numbered.result in
    let asked = c.in-Some.process in
    let given = c.args.process in
    shown_so c.self.view_is c.state.result.now
    (c.state.ensures.state ∙ ap (λ (x : SessionView). x.playback.walk.state) c.self.view_is)
    c.self.invariant
    c.requires.running
    (λ s. live_process (current_world s) p
    ≡ live_process (current_world s) (process_asked s given))
    (λ r at q output error h.
    let s : Session = session_of c.self.inside.client r at in
    ap (λ (w : World). live_process w p) h.world ∙ c.process_numbered.ensures.same q
    ∙ sym (ap (λ (w : World). live_process w asked) h.world)
    ∙ ap (λ (o : Option ℕ). live_process at.moment.world (process_asked s o))
    (sym c.in-Some.is))

pub returns-in-Some-clause-number : goal.returns-in-Some-clause-number
returns-in-Some-clause-number c =
    let p = c.process_numbered.result in
    let asked = c.in-Some.process in
    let given = c.args.process in
    shown_so c.self.view_is c.state.result.now
    (c.state.ensures.state ∙ ap (λ (x : SessionView). x.playback.walk.state) c.self.view_is)
    c.self.invariant
    c.requires.running
    (λ s. IsSome (live_process (current_world s) (process_asked s given))
    → p ≡ process_asked s given)
    (λ r at q output error h live.
    let s : Session = session_of c.self.inside.client r at in
    let here : IsSome (live_process at.moment.world asked) =
    subst (λ (o : Option ℕ). IsSome (live_process at.moment.world (process_asked s o)))
    c.in-Some.is live in
    c.process_numbered.ensures.number q
    (subst (λ (w : World). IsSome (live_process w asked)) h.world here)
    ∙ ap (process_asked s) (sym c.in-Some.is))

pub returns-in-None-clause-same : goal.returns-in-None-clause-same
returns-in-None-clause-same c s shows =
    ap (live_process (current_world s)) (c.process_meant.ensures s shows)
    ∙ ap (λ (o : Option ℕ). live_process (current_world s) (process_asked s o))
    (sym c.in-None.is)

pub returns-in-None-clause-number : goal.returns-in-None-clause-number
returns-in-None-clause-number c s shows live =
    c.process_meant.ensures s shows ∙ ap (process_asked s) (sym c.in-None.is)
