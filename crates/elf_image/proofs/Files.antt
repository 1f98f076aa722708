-- Small files, put together field by field.
use Rattle.std.specs.Prelude.{ℕ, List, [], ◌∷◌, ◌++◌, slice_set}
use Rattle.std.specs.Int.{w16, w32, to_le_bytes}

-- a number's two bytes, and its four
abbrev pub half_bytes : ℕ → List ℕ
half_bytes n = to_le_bytes w16 n

abbrev pub word_bytes : ℕ → List ℕ
word_bytes n = to_le_bytes w32 n

-- the file header of an executable for RISC-V, whose table of so many program headers stands right
-- behind it
abbrev pub file_header : (entry headers : ℕ) → List ℕ
file_header entry headers =
    (0x7F ∷ 0x45 ∷ 0x4C ∷ 0x46 ∷ 1 ∷ 1 ∷ 1 ∷ 0 ∷ 0 ∷ 0 ∷ 0 ∷ 0 ∷ 0 ∷ 0 ∷ 0 ∷ 0 ∷ [])
    ++ half_bytes 2 ++ half_bytes 243 ++ word_bytes 1 ++ word_bytes entry ++ word_bytes 52
    ++ word_bytes 0 ++ word_bytes 0 ++ half_bytes 52 ++ half_bytes 32 ++ half_bytes headers
    ++ half_bytes 0 ++ half_bytes 0 ++ half_bytes 0

-- a program header, with the physical address 0
abbrev pub program_header : (type offset address file memory flags : ℕ) → List ℕ
program_header type offset address file memory flags = word_bytes type ++ word_bytes offset
    ++ word_bytes address ++ word_bytes 0 ++ word_bytes file ++ word_bytes memory
    ++ word_bytes flags ++ word_bytes 4096

-- three instructions: process_exit with status 7
abbrev pub code : List ℕ
code = word_bytes 0x00200893 ++ word_bytes 0x00700513 ++ word_bytes 0x00000073

-- a file with one program header, and the code behind it at 84
abbrev pub with_header : List ℕ → List ℕ
with_header header = file_header 0x10000 1 ++ header ++ code

-- a file with two program headers, and the code behind them at 116
abbrev pub with_two : List ℕ → List ℕ → List ℕ
with_two first second = file_header 0x10000 2 ++ first ++ second ++ code

-- the code at 0x00010000, with all rights
abbrev pub smallest : List ℕ
smallest = with_header (program_header 1 84 0x10000 12 12 7)

-- the smallest file with another byte at a place
abbrev pub changed : (place byte : ℕ) → List ℕ
changed place byte = slice_set smallest place byte
