-- The fields of an ELF32 file by the names that the System V ABI gives them, each at its offset.
-- All numbers are little-endian. A byte past the file's end reads as 0.
use Rattle.std.specs.Prelude.{◌<◌, ◌≤◌, length, ℕ, zero, suc, ◌+◌, ◌*◌, List, [], ◌∷◌, drop}
use Rattle.std.specs.Prelude.{slice_index}
use Rattle.std.specs.Int.{w16, w32, from_le_bytes}
use Rattle.elf_image.specs.declared.header.Header.{Header}

-- the number of two bytes, and of four, that begins at a place
unfoldable pub half : List ℕ → ℕ → ℕ
half bytes place = from_le_bytes w16 (drop place bytes)

unfoldable pub word : List ℕ → ℕ → ℕ
word bytes place = from_le_bytes w32 (drop place bytes)

-- ---- the file header, of 52 bytes ("ELF Header"); e_ident is its first 16

abbrev pub e_ident : List ℕ → ℕ → ℕ
e_ident bytes index = slice_index bytes index

abbrev pub e_type : List ℕ → ℕ
e_type bytes = half bytes 16

abbrev pub e_machine : List ℕ → ℕ
e_machine bytes = half bytes 18

abbrev pub e_version : List ℕ → ℕ
e_version bytes = word bytes 20

abbrev pub e_entry : List ℕ → ℕ
e_entry bytes = word bytes 24

abbrev pub e_phoff : List ℕ → ℕ
e_phoff bytes = word bytes 28

abbrev pub e_flags : List ℕ → ℕ
e_flags bytes = word bytes 36

abbrev pub e_phentsize : List ℕ → ℕ
e_phentsize bytes = half bytes 42

abbrev pub e_phnum : List ℕ → ℕ
e_phnum bytes = half bytes 44

-- ---- a program header, of 32 bytes ("Program Header")

-- the header with this index that stands at this place
abbrev pub header_from : List ℕ → ℕ → ℕ → Header
header_from bytes index place = record {
  index = index;
  kind = word bytes place;
  offset = word bytes (place + 4);
  address = word bytes (place + 8);
  file_size = word bytes (place + 16);
  memory_size = word bytes (place + 20);
  flags = word bytes (place + 24);
}

-- the table begins at e_phoff
unfoldable pub header_at : List ℕ → ℕ → Header
header_at bytes index = header_from bytes index (e_phoff bytes + 32 * index)

-- so many headers, from an index on
unfoldable pub headers_from : List ℕ → ℕ → ℕ → List Header
headers_from bytes index zero = []
headers_from bytes index (suc count) = header_at bytes index ∷ headers_from bytes (suc index) count

unfoldable pub headers : List ℕ → List Header
headers bytes = headers_from bytes 0 (e_phnum bytes)

-- the table is in the file, and of at most 64 headers
pub record HasTable (bytes : List ℕ) : Type 0 where
  pub header : 52 ≤ length bytes
  pub few : e_phnum bytes ≤ 64
  pub inside : 0 < e_phnum bytes → e_phoff bytes + 32 * e_phnum bytes ≤ length bytes
