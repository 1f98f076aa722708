use Rattle.std.proofs.Common.{arith}
use Rattle.proc_table.specs.Tables.{held_in}
use Rattle.kernel_calls.proofs.PipeEnds.{end-named, end-dropped}
use Rattle.kernel_calls.proofs.ending.drop_ends.Goals as goal

pub drop_end-requires : goal.drop_end-requires
drop_end-requires c = end-named
    (held_in c.args.table.now.processes c.args.pid) c.args.pipes.now c.loop-number.pipes
    c.loop-number.number c.descriptor.result c.requires.live c.requires.count c.requires.named
    c.loop-number.invariant c.descriptor.ensures (omega arith)

pub loop-number-preserved : goal.loop-number-preserved
loop-number-preserved c =
    end-dropped (held_in c.args.table.now.processes c.args.pid) c.args.pipes.now c.loop-number.pipes
    c.loop-number.number c.descriptor.result c.requires.live c.requires.count c.requires.named
    c.loop-number.invariant c.descriptor.ensures
    (omega arith) c.drop_end.new.pipes c.drop_end.ensures
