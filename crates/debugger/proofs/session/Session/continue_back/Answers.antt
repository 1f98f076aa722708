use Rattle.std.proofs.Common.{◌≡◌, List, None, ap}
use Rattle.std.proofs.lemmas.Result.{on_ok_weaker}
use Rattle.gdb_packets.specs.declared.resumptions.Resumption.{Resumption}
use Rattle.debug_connection.specs.Keeping.{texts_of}
use Rattle.debug_session.specs.Resuming.{continue_actions}
use Rattle.debug_session.specs.Sessions.{Session}
use Rattle.debugger.specs.Halting.{resumed_by}
use Rattle.debugger.specs.Standing.{SessionView, IsSessionOf}
use Rattle.debugger.specs.declared.resuming.Direction.TheVariants.{Backwards}
use Rattle.debugger.proofs.Telling.{answers_as, shown_so}
use Rattle.debugger.proofs.session.Session.continue_back.Goals as goal

pub returns : goal.returns
returns c =
    let given = c.continue_actions-actions.result in
    let same : (s : Session) → IsSessionOf c.args.self.now s → given ≡ continue_actions s =
    shown_so c.self.view_is c.self.inside.playback.walk.state
    (ap (λ (x : SessionView). x.playback.walk.state) c.self.view_is) c.self.invariant c.requires
    (λ s. given ≡ continue_actions s)
    (λ r at q output error h. c.continue_actions-actions.ensures r at) in
    on_ok_weaker c.resume.result
    (λ answers.
    answers_as c.args.self.now c.resume.new.self (texts_of c.args.replies.now.items)
    (texts_of c.resume.new.replies.items) (λ s. resumed_by s (continue_actions s) (Backwards None))
    (λ s. resumed_by s given (Backwards None))
    (λ s shows.
    ap (λ (rs : List Resumption). resumed_by s rs (Backwards None)) (same s shows)) answers)
    c.resume.ensures.answers
