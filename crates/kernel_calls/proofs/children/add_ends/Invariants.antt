use Rattle.std.proofs.Common.{take, IfSome}
use Rattle.proc_table.specs.Tables.{held_in}
use Rattle.kernel_calls.specs.Children.{AreAdded}
use Rattle.kernel_calls.proofs.children.add_ends.Given as goal

abbrev pub invariant-loop-number : goal.invariant-loop-number
invariant-loop-number l =
    IfSome (held_in l.table.processes l.pid)
    (λ h. AreAdded (take l.number h.descriptors) l.fn.pipes l.pipes)
