use Rattle.std.proofs.Common.{◌≡◌, drop}
use Rattle.group_parts.specs.Restoring.{AreRestorable, all_restored}
use Rattle.group_parts.proofs.building.restore_processes.Given as goal

abbrev pub invariant-loop-i : goal.invariant-loop-i
invariant-loop-i l = record {
  so_far : all_restored l.table (drop l.i l.processes) ≡ all_restored l.fn.table l.processes;
  rest : AreRestorable l.table (drop l.i l.processes);
  room : l.table.room ≡ l.room;
}
