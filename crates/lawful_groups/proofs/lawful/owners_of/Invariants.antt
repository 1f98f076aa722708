use Rattle.std.proofs.Common.{◌≡◌, ◌++◌, drop, map}
use Rattle.lawful_groups.proofs.lawful.owners_of.Given as goal

abbrev pub invariant-loop-i : goal.invariant-loop-i
invariant-loop-i l =
    l.owners.items ++ map (λ f. f.owner) (drop l.i l.frames) ≡ map (λ f. f.owner) l.frames
