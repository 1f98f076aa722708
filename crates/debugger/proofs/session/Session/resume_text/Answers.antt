use Rattle.std.proofs.Common.{◌≡◌, List, ap, ◌∙◌}
use Rattle.std.proofs.lemmas.Result.{on_ok_weaker}
use Rattle.gdb_packets.specs.declared.resumptions.Resumption.{Resumption}
use Rattle.debug_session.specs.Answers.{actions_in}
use Rattle.debug_session.specs.Resuming.{resumes}
use Rattle.debug_connection.specs.Keeping.{texts_of}
use Rattle.debugger.proofs.Telling.{answers_as}
use Rattle.debugger.proofs.session.Session.resume_text.Goals as goal

pub returns : goal.returns
returns c =
    let same : c.deref.result.now ≡ actions_in c.args.text.now =
    c.deref.ensures.value ∙ c.in_ok-actions.ensures in
    on_ok_weaker c.resume.result
    (λ answers.
    answers_as c.args.self.now c.resume.new.self (texts_of c.args.replies.now.items)
    (texts_of c.resume.new.replies.items) (λ s. resumes s (actions_in c.args.text.now))
    (λ s. resumes s c.deref.result.now)
    (λ s shows. ap (λ (rs : List Resumption). resumes s rs) same) answers)
    c.resume.ensures.answers
