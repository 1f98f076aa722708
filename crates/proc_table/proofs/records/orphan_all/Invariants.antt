use Rattle.std.proofs.Common.{◌≡◌, ◌<◌, ◌≤◌, ◌-◌, true}
use Rattle.std.specs.Vec.{vec_capacity}
use Rattle.proc_table.specs.Links.{is_child_at}
use Rattle.proc_table.proofs.Walked.{orphaned_before}
use Rattle.proc_table.proofs.records.orphan_all.Given as goal

abbrev pub invariant-loop-child : goal.invariant-loop-child
invariant-loop-child l = record {
  items : l.records.items ≡ orphaned_before l.parent l.initial.records.items l.child;
  capacity : vec_capacity l.records ≡ vec_capacity l.initial.records;
  low : l.child ≤ 65536;
  is : l.child < 65536 → is_child_at l.initial.records.items l.parent l.child ≡ true;
}

abbrev pub decreases-loop-child : goal.decreases-loop-child
decreases-loop-child l = 65536 - l.child
