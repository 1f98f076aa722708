-- Which page of an image comes next, and how a part lies in a page.
use Rattle.std.specs.Prelude.{ℕ, ◌+◌, ◌-◌, List, [], ◌∷◌, length, Option, Some, None, min, nat_lt}
use Rattle.std.specs.Prelude.{nat_le, ◌&&◌, if◌then◌else◌, slice_index}
use Rattle.elf_image.specs.declared.part.Part.{Part}

-- the lower of two numbers, of which there may be none
abbrev pub lower_of : Option ℕ → Option ℕ → Option ℕ
lower_of None b = b
lower_of (Some a) None = Some a
lower_of (Some a) (Some b) = Some (min a b)

-- the least number of a list that isn't below this one
abbrev pub least_from : ℕ → List ℕ → Option ℕ
least_from from [] = None
least_from from (n ∷ ns) =
    if nat_le from n then lower_of (Some n) (least_from from ns) else least_from from ns

-- the byte at an address, once the part's bytes in the file are laid over it
abbrev pub laid_over : Part → ℕ → ℕ → ℕ
laid_over part address before =
    if nat_le part.address address
    && nat_lt address (part.address + length part.bytes) then slice_index part.bytes
    (address - part.address) else before
