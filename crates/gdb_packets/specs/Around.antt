-- What stands around a separator, and between separators.
use Rattle.std.specs.Prelude.{ℕ, ◌+◌, ◌==◌, Bool, List, take, drop, Option, option_map, position}
use Rattle.std.specs.List.{slice_split}

-- whether a byte is this one
abbrev pub is_mark : ℕ → ℕ → Bool
is_mark mark byte = byte == mark

-- what stands before a place, and what behind it
abbrev pub sides : List ℕ → ℕ → List ℕ × List ℕ
sides text place = (take place text, drop (place + 1) text)

-- what stands before the first mark, and what behind it
abbrev pub around : ℕ → List ℕ → Option (List ℕ × List ℕ)
around mark text = option_map (sides text) (position (is_mark mark) text)

-- the parts between marks; there is always one
abbrev pub between_marks : ℕ → List ℕ → List (List ℕ)
between_marks mark text = slice_split (is_mark mark) text
