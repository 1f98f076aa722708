use Rattle.std.proofs.Common.{ap, sym, ◌∙◌}
use Rattle.std.proofs.lemmas.Result.{on_ok_weaker}
use Rattle.debug_connection.specs.Keeping.{texts_of}
use Rattle.debug_session.specs.Where.{where_lines}
use Rattle.debugger.proofs.Telling.{asked_of, prints_on}
use Rattle.debugger.proofs.session.Session.print_where.Goals as goal

pub returns : goal.returns
returns c =
    let k = c.args.self.now in
    on_ok_weaker c.print.result
    (λ put.
    prints_on k c.where_here.new.self (texts_of c.args.replies.now.items)
    (texts_of c.print.new.replies.items) (λ s. where_lines s.recording s.position)
    (texts_of c.deref.result.now) c.in_ok-lines.ensures.same c.in_ok-lines.ensures.moves
    c.in_ok-lines.ensures.failed put
    (λ s shows.
    let asked = asked_of k s shows in
    ap texts_of c.deref.ensures.value
    ∙ c.in_ok-lines.ensures.lines shows.start s shows.start_is asked.0
    ∙ ap (where_lines s.recording) (sym asked.1)))
    c.print.ensures
