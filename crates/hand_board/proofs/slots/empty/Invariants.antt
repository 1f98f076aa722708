use Rattle.std.proofs.Common.{◌≡◌, ◌+◌, ◌≤◌, vec_len, vec_capacity, ◌++◌}
use Rattle.std.specs.Prelude.{reverse}
use Rattle.hand_board.specs.Seating.{values}
use Rattle.hand_board.proofs.slots.empty.Given as goal

abbrev pub invariant-loop-slot : goal.invariant-loop-slot
invariant-loop-slot g l =
    (l.room.items ++ values (reverse l.slots.items) ≡ values l.fn.slots.items)
    × (vec_len l.room + vec_len l.slots ≤ vec_capacity l.room)
    × (vec_capacity l.room ≡ vec_capacity l.fn.room)

abbrev pub decreases-loop-slot : goal.decreases-loop-slot
decreases-loop-slot g l = vec_len l.slots
