use Rattle.std.proofs.Common.{◌≡◌, ◌≤◌, ◌++◌}
use Rattle.std.specs.Vec.{vec_capacity}
use Rattle.space_map.proofs.PutRun.{run_entries}
use Rattle.space_map.proofs.space.push_run.Given as goal

abbrev pub invariant-loop-index : goal.invariant-loop-index
invariant-loop-index l = record {
  items : l.entries.items ≡ l.fn.entries.items ++ run_entries l.page l.index l.entry;
  capacity : vec_capacity l.fn.entries ≤ vec_capacity l.entries;
}
