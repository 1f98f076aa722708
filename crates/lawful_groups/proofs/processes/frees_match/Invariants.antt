use Rattle.std.proofs.Common.{◌≡◌, ◌&&◌, drop}
use Rattle.lawful_groups.specs.Agreeing.{frees_match}
use Rattle.lawful_groups.proofs.processes.frees_match.Given as goal

abbrev pub invariant-loop-i : goal.invariant-loop-i
invariant-loop-i l =
    (l.all && frees_match (drop l.i l.owners) (drop l.i l.uses)) ≡ frees_match l.owners l.uses
