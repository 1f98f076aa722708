use Rattle.std.proofs.Common.{ap, ◌∙◌}
use Rattle.std.specs.Prelude.{map}
use Rattle.std.proofs.lemmas.Result.{err_from_is_err_and}
use Rattle.gdb_packets.specs.Framing.{frame}
use Rattle.debug_session.specs.Answers.{answer_to}
use Rattle.debug_session.specs.Connections.{last_or}
use Rattle.debug_connection.specs.Keeping.{Wire, texts_of}
use Rattle.debug_connection.proofs.Spoken.{frames_are, answer_spoken, answer_front, on_over}
use Rattle.debug_connection.proofs.Spoken.{on_still}
use Rattle.debug_connection.proofs.connection.Connection.answer.Goals as goal
use Rattle.debug_connection.proofs.connection.Connection.answer.Goals.{then-self, else-self}

pub returns-in_err-put-clause-spoken : goal.returns-in_err-put-clause-spoken
returns-in_err-put-clause-spoken g c s shown =
    let p = err_from_is_err_and c.from_residual-in_err-put.result
    c.from_residual-in_err-put.ensures.1 in
    rw (p.1, p.2) (answer_front (g.S.Answering.shows c.answer.new.self) c.args.self.now
    c.put.new.self s c.args.acknowledges c.args.text.now c.in_ok-frames.frames.items _ _
    (frames_are (answer_to s c.args.text.now).1 c.in_ok-replies.replies.items _
    (c.in_ok-replies.ensures s shown).1
    (c.in_ok-frames.ensures ∙ ap (λ l. map frame (texts_of l)) c.deref.ensures.value))
    c.in_err-put.ensures.err)

pub returns-clause-spoken : goal.returns-clause-spoken
returns-clause-spoken g c s shown =
    answer_spoken (g.S.Answering.shows c.answer.new.self) c.args.self.now
    c.put.new.self s c.args.acknowledges c.args.text.now c.in_ok-frames.frames.items _ _
    (c.in_ok-replies.ensures s shown).0
    (frames_are (answer_to s c.args.text.now).1 c.in_ok-replies.replies.items _
    (c.in_ok-replies.ensures s shown).1
    (c.in_ok-frames.ensures ∙ ap (λ l. map frame (texts_of l)) c.deref.ensures.value))
    (elim c.if-self.branch [
      | then-self w ↦ on_still _ _ _ _ _ _
          (ap (λ (v : Wire). v.is_acknowledging) c.self.view_is) w.if-self.true
          c.in_ok-put.ensures.acknowledging w.self-is w.ends_acknowledging.ensures
      | else-self w ↦ on_over _ _ _ _ _ (ap (λ (v : Wire). v.is_acknowledging) c.self.view_is)
          w.if-self.false c.in_ok-put.ensures.acknowledging w.self-is
    ])
    (c.in_ok-put.ensures.last
    ∙ ap (λ (v : Wire). last_or v.last (texts_of c.in_ok-frames.frames.items)) c.self.view_is)
    c.in_ok-put.ensures.ok
