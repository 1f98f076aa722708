use Rattle.std.proofs.Common.{◌∙◌, ap}
use Rattle.std.proofs.lemmas.Result.{on_ok_weaker}
use Rattle.debug_session.specs.Answers.{prints}
use Rattle.debug_connection.specs.Keeping.{texts_of}
use Rattle.debugger.specs.Asking.{lines_asked}
use Rattle.debugger.proofs.Telling.{answers_on, prints_answers}
use Rattle.debugger.proofs.session.Session.print_seen.Goals as goal

pub returns : goal.returns
returns c =
    let mid = c.know_meant.new.self in
    on_ok_weaker c.print.result
    (λ put.
    answers_on c.args.self.now mid mid (texts_of c.args.replies.now.items)
    (texts_of c.print.new.replies.items) (λ s. prints s (lines_asked s c.args.asked))
    c.in_ok-know_meant.ensures.same c.in_ok-know_meant.ensures.moves
    c.in_ok-know_meant.ensures.failed
    (prints_answers mid (texts_of c.args.replies.now.items) (texts_of c.print.new.replies.items)
    (λ s. lines_asked s c.args.asked) (texts_of c.deref.result.now) put
    (λ s shows. ap texts_of c.deref.ensures.value ∙ c.in_ok-lines.ensures s shows)))
    c.print.ensures
