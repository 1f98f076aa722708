use Rattle.std.proofs.Common.{take, IfSome}
use Rattle.proc_table.specs.Tables.{held_in}
use Rattle.kernel_calls.specs.Ending.{AreDropped}
use Rattle.kernel_calls.proofs.ending.drop_ends.Given as goal

abbrev pub invariant-loop-number : goal.invariant-loop-number
invariant-loop-number l =
    IfSome (held_in l.table.processes l.pid)
    (λ h. AreDropped (take l.number h.descriptors) l.fn.pipes l.pipes)
