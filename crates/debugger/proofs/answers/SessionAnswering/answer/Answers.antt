use Rattle.std.proofs.Common.{◌≡◌, ℕ, List, ◌++◌, ◌∙◌, ap, map, subst}
use Rattle.gdb_packets.specs.declared.packets.Packet.{Packet}
use Rattle.debug_connection.specs.Keeping.{texts_of}
use Rattle.debug_session.specs.Answers.{answer_to, answered_packet}
use Rattle.debug_session.specs.Connections.{reply_text}
use Rattle.debugger.specs.Standing.{IsSessionOf}
use Rattle.debugger.proofs.answers.SessionAnswering.answer.Goals as goal

pub returns : goal.returns
returns c s shows =
    let text = c.args.text.now in
    let answered =
    subst
    (λ (p : Packet). IsSessionOf c.answer_packet.new.self (answered_packet s text p).0
    × (texts_of c.answer_packet.new.replies.items ≡ texts_of c.new-replies.result.items
    ++ map reply_text (answered_packet s text p).1))
    c.read_packet.ensures (c.in_ok-answer_packet.ensures s shows) in (
      answered.0,
      answered.1
          ∙ ap (λ (ts : List (List ℕ)). ts ++ map reply_text (answer_to s text).1)
          (ap texts_of c.new-replies.ensures.items),
    )
