use Rattle.std.proofs.Common.{◌≡◌, true, refl, sym, ap, ◌∙◌}
use Rattle.dos_world.specs.Kernel.{copied_in}
use Rattle.dos_world.specs.Services.{transfers}
use Rattle.dos_world.specs.declared.Access.TheVariants.{Load}
use Rattle.kernel_mem.specs.MemoryWorld.{in_world}
use Rattle.kernel_calls.specs.CallResults.{are_readable, asked_count, call_in, write_to}
use Rattle.kernel_calls.specs.declared.state.Served.TheVariants.{Went}
use Rattle.kernel_calls.proofs.Sending.{answering, sent-bytes}
use Rattle.kernel_calls.proofs.ServicePlays.{plays_broken, plays_put, plays_quietly}
use Rattle.kernel_calls.proofs.Transferring.{no_bytes, not_mapped, reached_as}
use Rattle.kernel_calls.proofs.writing.send.Goals as goal

pub returns-then-count-eq0-clause-plays : goal.returns-then-count-eq0-clause-plays
returns-then-count-eq0-clause-plays g c =
    let a = c.args.asked.now in
    plays_quietly
    (λ w. transfers (write_to c.args.stream) (are_readable w a) (call_in w a)) c.args.state.now Went
    c.reply.new.state _
    (no_bytes Load c.args.state.now a (write_to c.args.stream) c.reply.new.state
    (sym c.min-count.ensures ∙ c.if-count-eq0.true) c.reply.ensures.answers)

pub returns-in-Ok-put-clause-plays : goal.returns-in-Ok-put-clause-plays
returns-in-Ok-put-clause-plays g c =
    let a = c.args.asked.now in
    let same : c.min-count.result ≡ asked_count c.args.asked.now = c.min-count.ensures in
    plays_put
    (λ w. transfers (write_to c.args.stream) (are_readable w a) (call_in w a)) c.args.stream _
    c.args.state.now c.reply-in-Ok-put.new.state _ _
    (sent-bytes c.args.state.now c.take_in.new.state c.reply-in-Ok-put.new.state a c.args.stream _
    (λ e. c.if-count-eq0.false (same ∙ e))
    (reached_as Load c.args.state.now a true _ same c.in-Ok.ensures.reach)
    (λ w. ap (λ n. copied_in (in_world w c.args.state.now.frames c.args.state.now.table)
    a.thread a.a1 n) (sym same) ∙ c.take_in.ensures.copies w)
    c.take_in.ensures.round.round c.take_in.ensures.stands
    (c.reply-in-Ok-put.ensures.answers ∙ ap (answering c.take_in.new.state a.thread) same))
    c.in-Ok-put.ensures.ok

pub returns-in-Err-put-clause-plays : goal.returns-in-Err-put-clause-plays
returns-in-Err-put-clause-plays g c =
    let a = c.args.asked.now in
    let same : c.min-count.result ≡ asked_count c.args.asked.now = c.min-count.ensures in
    let m = c.take_in.new.state in
    plays_broken
    (λ w. transfers (write_to c.args.stream) (are_readable w a) (call_in w a)) c.args.stream _
    c.args.state.now m (answering m a.thread (asked_count a)).table c.sink_stop.result _ _
    (sent-bytes c.args.state.now m (answering m a.thread (asked_count a)) a c.args.stream _
    (λ e. c.if-count-eq0.false (same ∙ e))
    (reached_as Load c.args.state.now a true _ same c.in-Ok.ensures.reach)
    (λ w. ap (λ n. copied_in (in_world w c.args.state.now.frames c.args.state.now.table)
    a.thread a.a1 n) (sym same) ∙ c.take_in.ensures.copies w)
    c.take_in.ensures.round.round c.take_in.ensures.stands refl)
    c.in-Err-put.ensures.err c.sink_stop.ensures

pub returns-in-Err-clause-plays : goal.returns-in-Err-clause-plays
returns-in-Err-clause-plays g c =
    let a = c.args.asked.now in
    plays_quietly
    (λ w. transfers (write_to c.args.stream) (are_readable w a) (call_in w a)) c.args.state.now Went
    c.refuse_call.new.state _
    (not_mapped Load c.args.state.now a (write_to c.args.stream) c.min-count.result
    c.min-count.ensures c.if-count-eq0.false c.in-Err.number c.refuse_call.new.state
    c.in-Err.ensures.reach (cc (c.in-Err.ensures.refusal)) c.refuse_call.ensures.answers)
