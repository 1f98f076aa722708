use Rattle.std.proofs.Common.{◌≡◌, ◌+◌, ◌≤◌, Some, vec_len, vec_capacity, map, ◌++◌}
use Rattle.std.specs.Prelude.{reverse}
use Rattle.hand_board.proofs.slots.fill.Given as goal

abbrev pub invariant-loop-pack : goal.invariant-loop-pack
invariant-loop-pack g l =
    (l.slots.items ++ map Some (reverse l.packs.items) ≡ map Some l.fn.packs.items)
    × (vec_len l.slots + vec_len l.packs ≤ vec_capacity l.slots)
    × (vec_capacity l.packs ≡ vec_capacity l.fn.packs)

abbrev pub decreases-loop-pack : goal.decreases-loop-pack
decreases-loop-pack g l = vec_len l.packs
