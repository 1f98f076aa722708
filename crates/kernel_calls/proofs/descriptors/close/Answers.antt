use Rattle.dos_world.specs.DescriptorCalls.{close}
use Rattle.kernel_calls.specs.StateWorld.{IsCounted}
use Rattle.kernel_calls.specs.CallResults.{ActsQuietly}
use Rattle.kernel_calls.specs.declared.state.Served.TheVariants.{Went}
use Rattle.kernel_calls.proofs.DescriptorRows.{close_named, close_row}
use Rattle.kernel_calls.proofs.descriptors.close.Goals as goal

pub drop_end-requires : goal.drop_end-requires
drop_end-requires c = close_named c.args.state.now c.requires.sound c.args.asked.now
    c.requires.asked
    c.in-Some.end c.in-Some.ensures

row : (c : goal.After-reply)
    → ActsQuietly close c.args.state.now c.args.asked.now Went c.reply.new.state
    × IsCounted c.reply.new.state
row c = close_row c.args.state.now c.requires.sound c.args.asked.now c.requires.asked
    c.in-Some.end c.close.new.self c.drop_end.new.pipes c.reply.new.state c.in-Some.ensures
    c.close.ensures.closes c.drop_end.ensures c.reply.ensures.answers

pub returns-in-Some-clause-goes_on : goal.returns-in-Some-clause-goes_on
returns-in-Some-clause-goes_on c = (row c).0

pub returns-in-Some-clause-counted : goal.returns-in-Some-clause-counted
returns-in-Some-clause-counted c = (row c).1
