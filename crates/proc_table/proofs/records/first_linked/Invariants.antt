use Rattle.std.proofs.Common.{◌-◌}
use Rattle.proc_table.proofs.Walked.{IsReached}
use Rattle.proc_table.specs.Places.{is_child_record}
use Rattle.proc_table.specs.Links.{is_child_at, passes_at}
use Rattle.proc_table.proofs.records.first_linked.Given as goal

abbrev pub invariant-loop-child : goal.invariant-loop-child
invariant-loop-child l = IsReached (passes_at (is_child_record l.ended l.parent) l.records)
    (is_child_at l.records l.parent) l.child

abbrev pub decreases-loop-child : goal.decreases-loop-child
decreases-loop-child l = 65536 - l.child
