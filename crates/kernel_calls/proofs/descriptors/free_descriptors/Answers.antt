use Rattle.std.proofs.Common.{arith}
use Rattle.proc_table.specs.Tables.{held_in}
use Rattle.kernel_calls.proofs.DescriptorCounts.{count_more}
use Rattle.kernel_calls.proofs.descriptors.free_descriptors.Goals as goal

pub loop-number-preserved : goal.loop-number-preserved
loop-number-preserved c =
    count_more (held_in c.args.table.now.processes c.args.pid) c.loop-number.number
    c.loop-number.free c.one_if_free-free.result c.descriptor.result (omega arith) c.requires.count
    c.loop-number.invariant c.descriptor.ensures c.one_if_free-free.ensures
