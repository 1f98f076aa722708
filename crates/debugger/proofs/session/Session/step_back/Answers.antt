use Rattle.std.proofs.Common.{◌≡◌, ℕ, List, Some, true, ap, subst, sym, ◌∙◌}
use Rattle.std.proofs.lemmas.Result.{on_ok_weaker}
use Rattle.gdb_packets.specs.declared.resumptions.Resumption.{Resumption}
use Rattle.debug_client.specs.Births.{has_home, knows_named}
use Rattle.debug_client.specs.Clients.{session_of}
use Rattle.debug_connection.specs.Keeping.{texts_of}
use Rattle.debug_session.specs.Resuming.{continue_actions, step_actions}
use Rattle.debug_session.specs.Resuming.{thread_stepped}
use Rattle.debug_session.specs.Sessions.{Session}
use Rattle.debugger.specs.Halting.{resumed_by}
use Rattle.debugger.specs.Standing.{SessionView, IsSessionOf, recording_of}
use Rattle.debugger.specs.declared.resuming.Direction.TheVariants.{Backwards}
use Rattle.debugger.proofs.Naming.{first_true, some_place}
use Rattle.debugger.proofs.Telling.{answers_as, shown_so}
use Rattle.debugger.proofs.session.Session.step_back.Goals as goal

pub resume-requires-clause-named : goal.resume-requires-clause-named
resume-requires-clause-named c births known =
    let at = some_place c.args.self.now in
    let r = recording_of c.args.self.now in
    let s : Session = session_of c.self.inside.client r at in
    let named : knows_named births (step_actions s) ≡ true =
    subst (λ (rs : List Resumption). knows_named births rs ≡ true)
    (c.step_actions-actions.ensures r at) known in
    subst (λ (t : ℕ). has_home births t ≡ true)
    (sym (c.thread_stepped-stepped.ensures.stepped r at))
    (first_true (has_home births (thread_stepped s)) (knows_named births (continue_actions s))
    named)

pub returns : goal.returns
returns c =
    let given = c.step_actions-actions.result in
    let stepped = c.thread_stepped-stepped.result in
    let state = c.self.inside.playback.walk.state in
    let there = ap (λ (x : SessionView). x.playback.walk.state) c.self.view_is in
    let same : (s : Session) → IsSessionOf c.args.self.now s → given ≡ step_actions s =
    shown_so c.self.view_is state there c.self.invariant c.requires
    (λ s. given ≡ step_actions s) (λ r at q output error h. c.step_actions-actions.ensures r at) in
    let it : (s : Session) → IsSessionOf c.args.self.now s → stepped ≡ thread_stepped s =
    shown_so c.self.view_is state there c.self.invariant c.requires
    (λ s. stepped ≡ thread_stepped s)
    (λ r at q output error h. c.thread_stepped-stepped.ensures.stepped r at) in
    on_ok_weaker c.resume.result
    (λ answers.
    answers_as c.args.self.now c.resume.new.self (texts_of c.args.replies.now.items)
    (texts_of c.resume.new.replies.items)
    (λ s. resumed_by s (step_actions s) (Backwards (Some (thread_stepped s))))
    (λ s. resumed_by s given (Backwards (Some stepped)))
    (λ s shows.
    ap (λ (rs : List Resumption). resumed_by s rs (Backwards (Some stepped))) (same s shows)
    ∙ ap (λ (t : ℕ). resumed_by s (step_actions s) (Backwards (Some t))) (it s shows)) answers)
    c.resume.ensures.answers
