-- Numbers and pages in the flat list of bytes. Memory of this profile is little-endian: RISC-V
-- unprivileged manual, edition 20191213, sections 1.5 and 2.6.
use Rattle.std.specs.Prelude.{ℕ, zero, suc, ◌+◌, ◌*◌, ◌/◌, ◌%◌, List, [], ◌∷◌, ◌++◌, take, drop}
use Rattle.std.specs.Prelude.{replicate, slice_set}
use Rattle.dos_world.specs.World.{World, page_size}

-- the number that bytes stand for, the lowest first
abbrev pub number_of : List ℕ → ℕ
number_of [] = 0
number_of (b ∷ bytes) = b + 256 * number_of bytes

-- the lowest bytes of a number, so many
abbrev pub bytes_of : ℕ → ℕ → List ℕ
bytes_of zero n = []
bytes_of (suc k) n = n % 256 ∷ bytes_of k (n / 256)

-- the number in so many bytes from a place on
abbrev pub loaded : World → ℕ → ℕ → ℕ
loaded w place count = number_of (take count (drop place w.bytes))

-- the bytes written one after another from a place on
abbrev pub written : List ℕ → ℕ → List ℕ → List ℕ
written bytes place [] = bytes
written bytes place (b ∷ new) = written (slice_set bytes place b) (suc place) new

-- the world with these bytes written from a place on
abbrev pub stored : World → ℕ → List ℕ → World
stored w place new = record w { bytes = written w.bytes place new }

-- a page of zeros
unfoldable pub zero_page : List ℕ
zero_page = replicate page_size 0

-- the bytes with the page of a frame replaced
abbrev pub with_page : List ℕ → ℕ → List ℕ → List ℕ
with_page bytes frame page =
    take (page_size * frame) bytes ++ page ++ drop (page_size * frame + page_size) bytes
