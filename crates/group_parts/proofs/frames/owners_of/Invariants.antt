use Rattle.std.proofs.Common.{◌≡◌, map, take}
use Rattle.group_parts.proofs.frames.owners_of.Given as goal

abbrev pub invariant-loop-i : goal.invariant-loop-i
invariant-loop-i l = l.owners.items ≡ map (λ f. f.owner) (take l.i l.frames)
