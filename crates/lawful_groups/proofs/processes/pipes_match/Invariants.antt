use Rattle.std.proofs.Common.{◌≡◌, ◌&&◌, drop, map}
use Rattle.lawful_groups.specs.Agreeing.{pipes_match}
use Rattle.lawful_groups.proofs.processes.pipes_match.Given as goal

abbrev pub invariant-loop-i : goal.invariant-loop-i
invariant-loop-i l =
    (l.all && pipes_match l.processes l.i (map (λ p. p.items) (drop l.i l.pipes)))
    ≡ pipes_match l.processes 0 (map (λ p. p.items) l.pipes)
