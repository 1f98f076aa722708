use Rattle.std.proofs.Common.{arith, ◌∙◌, ◌≡◌, ◌+◌, take, get_or, ◌++◌, ◌∷◌, []}
use Rattle.std.proofs.lemmas.List.{take_more}
use Rattle.std.proofs.lemmas.Result.{err_from_is_err_and}
use Rattle.gdb_packets.specs.Framer.{framing_of}
use Rattle.debug_connection.specs.Keeping.{connection_of}
use Rattle.debug_connection.proofs.Heard.{framing_more, heard_more, heard_stop}
use Rattle.debug_connection.proofs.connection.Connection.hear_bytes.Goals as goal

pub returns-in_err-hear_byte-clause-heard : goal.returns-in_err-hear_byte-clause-heard
returns-in_err-hear_byte-clause-heard g c s shown =
    let inv = c.loop-byte.invariant in
    let p = err_from_is_err_and c.from_residual.result c.from_residual.ensures.1 in
    rw (p.1, p.2) (heard_stop (g.S.Answering.shows c.loop-byte.server)
    (g.S.Answering.shows c.hear_byte.new.server) c.loop-byte.self c.hear_byte.new.self
    (connection_of c.args.self.now s) (framing_of c.args.framer.now) (framing_of c.loop-byte.framer)
    c.args.bytes.now c.loop-byte.byte-index _ _ (g.O.Sink.told c.loop-byte.out) _ (omega arith)
    inv.framing (inv.heard s shown) c.in_err-hear_byte.ensures.spoken)

pub loop-byte-preserved : goal.loop-byte-preserved
loop-byte-preserved g c =
    let inv = c.loop-byte.invariant in
    let i = c.loop-byte.byte-index in
    let bytes = c.args.bytes.now in
    let more : take (i + 1) bytes ≡ take i bytes ++ get_or bytes i 0 ∷ [] =
    take_more bytes i 0 (omega arith) in
    record {
      framing = framing_more (framing_of c.args.framer.now) _ _ (take i bytes) (get_or bytes i 0) _
          more inv.framing c.hear_byte.ensures.framing;
      heard = λ s shown. heard_more (g.S.Answering.shows c.loop-byte.server)
          (g.S.Answering.shows c.hear_byte.new.server) c.loop-byte.self c.hear_byte.new.self
          (connection_of c.args.self.now s) (framing_of c.args.framer.now)
          (framing_of c.loop-byte.framer) (take i bytes) (get_or bytes i 0) _ _
          (g.O.Sink.told c.loop-byte.out) _ more inv.framing (inv.heard s shown)
          c.in_ok-hear_byte.ensures.spoken;
      steady = c.in_ok-hear_byte.ensures.faults ∙ inv.steady;
    }
