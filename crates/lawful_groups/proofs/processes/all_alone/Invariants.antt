use Rattle.std.proofs.Common.{◌≡◌, ◌&&◌, drop}
use Rattle.lawful_groups.specs.Agreeing.{are_alone}
use Rattle.std.specs.List.{list_all}
use Rattle.lawful_groups.proofs.processes.all_alone.Given as goal

abbrev pub invariant-loop-i : goal.invariant-loop-i
invariant-loop-i l =
    (l.all && list_all (are_alone l.uses) (drop l.i l.processes))
    ≡ list_all (are_alone l.uses) l.processes
