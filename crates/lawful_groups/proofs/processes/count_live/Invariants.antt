use Rattle.std.proofs.Common.{◌≡◌, ◌≤◌, drop, ◌+◌}
use Rattle.lawful_groups.specs.Agreeing.{living_processes}
use Rattle.lawful_groups.proofs.processes.count_live.Given as goal

abbrev pub invariant-loop-i : goal.invariant-loop-i
invariant-loop-i l =
    (l.count + living_processes (drop l.i l.processes) ≡ living_processes l.processes)
    × (l.count ≤ l.i)
