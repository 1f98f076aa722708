use Rattle.dos_world.specs.DescriptorCalls.{write_pipe}
use Rattle.dos_world.specs.declared.Access.TheVariants.{Load}
use Rattle.kernel_calls.proofs.Transferring.{all_mapped, not_mapped}
use Rattle.kernel_calls.proofs.piping.write_pipe.Goals as goal

pub returns-in-Ok-clause-goes_on : goal.returns-in-Ok-clause-goes_on
returns-in-Ok-clause-goes_on c =
    all_mapped Load c.args.state.now c.args.asked.now (write_pipe c.args.pipe) c.min-count.result
    c.min-count.ensures c.if-count-eq0.false c.give_some.result c.give_some.new.state
    c.in-Ok.ensures.reach c.give_some.ensures.goes_on

pub returns-in-Err-clause-goes_on : goal.returns-in-Err-clause-goes_on
returns-in-Err-clause-goes_on c =
    not_mapped Load c.args.state.now c.args.asked.now (write_pipe c.args.pipe) c.min-count.result
    c.min-count.ensures c.if-count-eq0.false c.in-Err.number c.refuse_call.new.state
    c.in-Err.ensures.reach (cc (c.in-Err.ensures.refusal)) c.refuse_call.ensures.answers
