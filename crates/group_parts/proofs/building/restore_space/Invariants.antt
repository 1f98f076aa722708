use Rattle.std.proofs.Common.{◌≡◌, take}
use Rattle.space_map.specs.Mapping.{Mapping}
use Rattle.group_parts.proofs.building.restore_space.Given as goal

abbrev pub invariant-loop-i : goal.invariant-loop-i
invariant-loop-i l =
    l.space ≡ (let s : Mapping = record { entries = take l.i l.pages; room = l.room } in s)
