use Rattle.std.proofs.Common.{arith}
use Rattle.proc_table.proofs.KeptRecords.{walkable}
use Rattle.proc_table.proofs.records.Records.first_child.Goals as goal

pub first_linked-requires : goal.first_linked-requires
first_linked-requires c =
    walkable c.self.invariant c.self.view_is c.deref-2.ensures.value c.deref-3.ensures.value
    c.args.parent (omega (arith, c.if-parent-eq0.false))
    (omega (arith, c.if-parent-len.false, c.len.ensures))
