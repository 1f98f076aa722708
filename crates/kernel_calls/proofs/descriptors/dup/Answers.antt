use Rattle.std.proofs.Common.{refl, sym, subst, ap, ◌∙◌}
use Rattle.dos_world.specs.Kernel.{minus}
use Rattle.proc_table.specs.Tables.{Tables}
use Rattle.dos_world.specs.DescriptorCalls.{dup}
use Rattle.kernel_calls.specs.StateWorld.{IsCounted}
use Rattle.kernel_calls.specs.CallResults.{ActsQuietly}
use Rattle.kernel_calls.specs.declared.state.Served.TheVariants.{Went}
use Rattle.kernel_calls.proofs.DescriptorRows.{dup_can_have, dup_full_row, dup_row}
use Rattle.kernel_calls.proofs.Sending.{answering}
use Rattle.kernel_calls.proofs.descriptors.dup.Goals as goal

pub add_end-requires : goal.add_end-requires
add_end-requires c = dup_can_have c.args.state.now c.requires.sound c.args.asked.now
    c.requires.asked
    c.in-Some.end c.in-Some-open_lowest.number c.in-Some.ensures
    c.in-Some-open_lowest.ensures.lowest

row : (c : goal.After-reply)
    → ActsQuietly dup c.args.state.now c.args.asked.now Went c.reply.new.state
    × IsCounted c.reply.new.state
row c = dup_row c.args.state.now c.requires.sound c.args.asked.now c.requires.asked
    c.in-Some.end c.in-Some-open_lowest.number c.open_lowest.new.self c.add_end.new.pipes
    c.reply.new.state c.in-Some.ensures c.in-Some-open_lowest.ensures.lowest
    c.in-Some-open_lowest.ensures.opens c.add_end.ensures c.reply.ensures.answers

pub returns-in-Some-open_lowest-clause-goes_on : goal.returns-in-Some-open_lowest-clause-goes_on
returns-in-Some-open_lowest-clause-goes_on c = (row c).0

pub returns-in-Some-open_lowest-clause-counted : goal.returns-in-Some-open_lowest-clause-counted
returns-in-Some-open_lowest-clause-counted c = (row c).1

pub returns-in-None-open_lowest-clause-goes_on : goal.returns-in-None-open_lowest-clause-goes_on
returns-in-None-open_lowest-clause-goes_on c =
    dup_full_row c.args.state.now c.requires.sound c.args.asked.now c.requires.asked
    c.in-Some.end c.refuse_call.new.state c.in-Some.ensures c.in-None-open_lowest.ensures.lowest
    (c.refuse_call.ensures.answers
    ∙ ap (λ (T : Tables). answering (record c.args.state.now { table = T }) c.args.asked.now.thread
    (minus 24)) (c.in-None-open_lowest.ensures.none refl))

pub returns-in-None-open_lowest-clause-counted : goal.returns-in-None-open_lowest-clause-counted
returns-in-None-open_lowest-clause-counted c =
    c.refuse_call.ensures.counted
    (subst (λ (T : Tables). IsCounted (record c.args.state.now { table = T }))
    (sym (c.in-None-open_lowest.ensures.none refl)) c.requires.sound.counted)
