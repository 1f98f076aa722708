use Rattle.std.proofs.Common.{◌≡◌, ℕ, ◌-◌, ◌<◌, ◌≤◌, vec_len, vec_capacity, get_or, false}
use lib.ListN.{take}
use Rattle.std.specs.Mem.Slots.{slots_items, slots_filled, slots_len}
use Rattle.std.specs.Mem.Slots.Ownership.{Filled}
use Rattle.hand_board.specs.Seating.{AllFinished}
use Rattle.hand_board.proofs.slots.take_all.Given as goal

abbrev pub invariant-loop-i : goal.invariant-loop-i
invariant-loop-i g l =
    Filled (slots_filled l.closed.slots) l.i (slots_len l.closed.slots)
    × ((k : ℕ) → k < l.i → get_or (slots_filled l.closed.slots) k false ≡ false)
    × (slots_items l.closed.slots ≡ slots_items l.fn.closed.slots)
    × (slots_len l.closed.slots ≡ slots_len l.fn.closed.slots)
    × (l.closed.words ≡ l.fn.closed.words)
    × AllFinished g.T.Part.finished (take l.i l.fn.opened.value.opened) l.room.items
    × (l.i ≤ slots_len l.closed.slots)
    × (vec_len l.room ≤ l.i)
    × (slots_len l.closed.slots ≤ vec_capacity l.room)
    × (vec_capacity l.room ≡ vec_capacity l.fn.room)

abbrev pub decreases-loop-i : goal.decreases-loop-i
decreases-loop-i g l = slots_len l.closed.slots - l.i
