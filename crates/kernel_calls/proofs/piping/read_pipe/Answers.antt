use Rattle.dos_world.specs.DescriptorCalls.{read_pipe}
use Rattle.dos_world.specs.declared.Access.TheVariants.{Store}
use Rattle.kernel_calls.proofs.Transferring.{all_mapped, not_mapped}
use Rattle.kernel_calls.proofs.piping.read_pipe.Goals as goal

pub returns-in-Ok-clause-goes_on : goal.returns-in-Ok-clause-goes_on
returns-in-Ok-clause-goes_on c =
    all_mapped Store c.args.state.now c.args.asked.now (read_pipe c.args.pipe) c.min-count.result
    c.min-count.ensures c.if-count-eq0.false c.take_some.result c.take_some.new.state
    c.in-Ok.ensures.reach c.take_some.ensures.goes_on

pub returns-in-Err-clause-goes_on : goal.returns-in-Err-clause-goes_on
returns-in-Err-clause-goes_on c =
    not_mapped Store c.args.state.now c.args.asked.now (read_pipe c.args.pipe) c.min-count.result
    c.min-count.ensures c.if-count-eq0.false c.in-Err.number c.refuse_call.new.state
    c.in-Err.ensures.reach (cc (c.in-Err.ensures.refusal)) c.refuse_call.ensures.answers
