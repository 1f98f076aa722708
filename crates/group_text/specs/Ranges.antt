-- The ranges of a saved group's fields that aren't plain intervals. This project's own rules.
use Rattle.std.specs.Prelude.{ℕ, ◌%◌, Bool, not, ◌&&◌, ◌==◌, nat_lt}
use Rattle.dos_world.specs.World.{has_bit, page_size}

-- whether a set may be pending: signal 0 is none
abbrev pub may_pend : ℕ → Bool
may_pend set = not (has_bit set 0)

-- whether a set may be a mask: 0 is no signal, and 9 can't be masked
abbrev pub may_mask : ℕ → Bool
may_mask set = not (has_bit set 0) && not (has_bit set 9)

-- whether an offset is that of a word in a page
abbrev pub is_word_in_page : ℕ → Bool
is_word_in_page offset = (offset % 4 == 0) && nat_lt offset page_size
