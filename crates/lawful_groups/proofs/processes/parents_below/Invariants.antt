use Rattle.std.proofs.Common.{◌≡◌, ◌&&◌, drop, suc}
use Rattle.lawful_groups.specs.Agreeing.{parents_below}
use Rattle.lawful_groups.proofs.processes.parents_below.Given as goal

abbrev pub invariant-loop-i : goal.invariant-loop-i
invariant-loop-i l =
    (l.all && parents_below (suc l.i) (drop l.i l.processes)) ≡ parents_below 1 l.processes
