use Rattle.std.proofs.Common.{arith, refl, ◌∙◌, ◌≡◌, subst, take, length}
use Rattle.std.specs.Prelude.{IfSome}
use Rattle.dos_io.specs.Hosts.{taken}
use Rattle.std.proofs.lemmas.Result.{err_from_is_err_and}
use Rattle.gdb_packets.specs.Framer.{framing_of}
use Rattle.debug_connection.proofs.Served.{serving_begins, serving_more, served_whole, served_host}
use Rattle.debug_connection.proofs.Served.{served_memory, served_stop}
use Rattle.debug_connection.proofs.serving.serve.Goals as goal

pub loop-init : goal.loop-init
loop-init g c = record {
  serving = λ s shown. serving_begins _ _ _ s _ _ c.new-framer.ensures (c.new-connection.ensures s)
      shown;
  host = refl;
  out = refl;
}

pub returns-in_err-count-clause-served : goal.returns-in_err-count-clause-served
returns-in_err-count-clause-served g c s shown =
    let p = err_from_is_err_and c.from_residual.result c.from_residual.ensures.1 in
    rw (p.1, p.2) (served_host (g.S.Answering.shows c.loop.server) c.loop.connection
    (framing_of c.loop.framer) s _ (g.H.Host.told c.loop.host) _ _
    (c.loop.invariant.serving s shown))

pub returns-then-count-eq0-clause-served : goal.returns-then-count-eq0-clause-served
returns-then-count-eq0-clause-served g c s shown =
    served_whole (g.S.Answering.shows c.loop.server) c.loop.connection (framing_of c.loop.framer) s
    (length c.loop.buffer) _ (g.H.Host.told c.loop.host) _ _ (omega arith)
    (g.met.H.Host.filled c.loop.host)
    (c.loop.invariant.serving s shown)
    (subst (λ k. IfSome (g.H.Host.told c.loop.host)
    (λ t. take k c.input.new.buf ≡ (taken (length c.loop.buffer) t.pieces).0))
    c.if-count-eq0.true c.in_ok-count.ensures.bytes)

pub returns-in_err-hear_bytes-clause-served : goal.returns-in_err-hear_bytes-clause-served
returns-in_err-hear_bytes-clause-served g c s shown =
    let p = err_from_is_err_and c.from_residual-in_err-hear_bytes.result
    c.from_residual-in_err-hear_bytes.ensures.1 in
    rw (p.1, p.2) (served_stop (g.S.Answering.shows c.loop.server)
    (g.S.Answering.shows c.hear_bytes.new.server) c.loop.connection c.hear_bytes.new.self
    (framing_of c.loop.framer) s _ (length c.loop.buffer)
    (take c.in_ok-count.count c.input.new.buf) _ (g.H.Host.told c.loop.host)
    (g.H.Host.told c.input.new.self) _ (g.O.Sink.told c.loop.out) _
    (c.loop.invariant.serving s shown) c.in_ok-count.ensures.bytes
    c.in_ok-count.ensures.told_ok c.in_err-hear_bytes.ensures.heard)

pub loop-preserved : goal.loop-preserved
loop-preserved g c = record {
  serving = λ s shown. serving_more (g.S.Answering.shows c.loop.server)
      (g.S.Answering.shows c.hear_bytes.new.server) c.loop.connection c.hear_bytes.new.self
      (framing_of c.loop.framer) (framing_of c.hear_bytes.new.framer) s (length c.loop.buffer)
      (take c.in_ok-count.count c.input.new.buf) _
      (g.H.Host.told c.loop.host) (g.H.Host.told c.input.new.self) _ (g.O.Sink.told c.loop.out) _
      (c.loop.invariant.serving s shown) c.in_ok-count.ensures.bytes
      c.in_ok-count.ensures.told_ok c.in_ok-hear_bytes.ensures.framing
      c.in_ok-hear_bytes.ensures.heard;
  host = c.in_ok-count.ensures.steady ∙ c.loop.invariant.host;
  out = c.in_ok-hear_bytes.ensures.faults ∙ c.loop.invariant.out;
}

pub returns-clause-served : goal.returns-clause-served
returns-clause-served g c s shown =
    served_memory (g.S.Answering.shows c.loop.server) c.loop.connection (framing_of c.loop.framer) s
    _ (g.H.Host.told c.loop.host) _ _ (c.loop.invariant.serving s shown)
