use Rattle.std.proofs.Common.{◌≡◌, ◌&&◌, drop, suc}
use Rattle.lawful_groups.specs.Agreeing.{all_populated}
use Rattle.lawful_groups.proofs.processes.all_populated.Given as goal

abbrev pub invariant-loop-i : goal.invariant-loop-i
invariant-loop-i l =
    (l.all && all_populated l.threads (suc l.i) (drop l.i l.processes))
    ≡ all_populated l.threads 1 l.processes
