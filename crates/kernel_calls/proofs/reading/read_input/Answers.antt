use Rattle.std.proofs.Common.{Some, sym, ◌∙◌}
use Rattle.dos_world.specs.Services.{read_by, read_input}
use Rattle.dos_world.specs.declared.Access.TheVariants.{Store}
use Rattle.dos_world.specs.declared.End.TheVariants.{Input}
use Rattle.kernel_calls.specs.CallResults.{call_in}
use Rattle.kernel_calls.specs.declared.state.Served.TheVariants.{Went}
use Rattle.kernel_calls.proofs.ServicePlays.{plays_as, plays_quietly}
use Rattle.kernel_calls.proofs.Transferring.{does_move, no_bytes, not_mapped}
use Rattle.kernel_calls.proofs.reading.read_input.Goals as goal

pub returns-then-count-eq0-clause-plays : goal.returns-then-count-eq0-clause-plays
returns-then-count-eq0-clause-plays g c =
    plays_quietly (λ w. read_by (Some Input) (call_in w c.args.asked.now)) c.args.state.now Went
    c.reply.new.state _
    (no_bytes Store c.args.state.now c.args.asked.now read_input c.reply.new.state
    (sym c.min-count.ensures ∙ c.if-count-eq0.true) c.reply.ensures.answers)

pub returns-in-Err-clause-plays : goal.returns-in-Err-clause-plays
returns-in-Err-clause-plays g c =
    plays_quietly (λ w. read_by (Some Input) (call_in w c.args.asked.now)) c.args.state.now Went
    c.refuse_call.new.state _
    (not_mapped Store c.args.state.now c.args.asked.now read_input c.min-count.result
    c.min-count.ensures c.if-count-eq0.false c.in-Err.number c.refuse_call.new.state
    c.in-Err.ensures.reach (cc (c.in-Err.ensures.refusal)) c.refuse_call.ensures.answers)

pub returns-in-Ok-clause-plays : goal.returns-in-Ok-clause-plays
returns-in-Ok-clause-plays g c =
    let a = c.args.asked.now in
    plays_as (λ w. read_by (Some Input) (call_in w a)) (λ w. read_input (call_in w a))
    c.args.state.now c.args.state.now
    (does_move Store c.args.state.now a read_input c.min-count.result
    c.min-count.ensures c.if-count-eq0.false c.in-Ok.ensures.reach)
    _ _ c.ask_input.result c.ask_input.new.state c.ask_input.ensures.plays
