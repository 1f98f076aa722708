use Rattle.std.proofs.Common.{arith}
use Rattle.proc_table.specs.Tables.{held_in}
use Rattle.kernel_calls.proofs.PipeAdds.{end_added, end_can, nothing_added}
use Rattle.kernel_calls.proofs.children.add_ends.Goals as goal

pub loop-number-init : goal.loop-number-init
loop-number-init c = nothing_added (held_in c.args.table.now.processes c.args.pid)
    c.args.pipes.now c.requires.room

pub add_named-requires : goal.add_named-requires
add_named-requires c = end_can
    (held_in c.args.table.now.processes c.args.pid) c.args.pipes.now c.loop-number.pipes
    c.loop-number.number c.descriptor.result c.requires.live c.requires.count c.requires.room
    c.loop-number.invariant c.descriptor.ensures (omega arith)

pub loop-number-preserved : goal.loop-number-preserved
loop-number-preserved c =
    end_added (held_in c.args.table.now.processes c.args.pid) c.args.pipes.now c.loop-number.pipes
    c.loop-number.number c.descriptor.result c.requires.live c.requires.count c.requires.room
    c.loop-number.invariant c.descriptor.ensures
    (omega arith) c.add_named.new.pipes c.add_named.ensures
