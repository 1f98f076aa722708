-- The code of a builder: an item stands at a place, counted in halfwords from 0, and a jump or a
-- branch goes to the place of its label.
use Rattle.std.specs.Prelude.{ℕ, ◌+◌, ◌++◌, ◌*◌, ◌^◌, ◌-ℤ◌, ℤ, pos, negsuc, Bool, nat_lt, List, []}
use Rattle.std.specs.Prelude.{◌∷◌}
use Rattle.std.specs.Prelude.{Option, Some, None, Result, Ok, Err, if◌then◌else◌}
use Rattle.std.specs.Int.{w16, w32, to_le_bytes}
use Rattle.rv_isa.specs.Encoding.{encoding}
use Rattle.rv_isa.specs.declared.BranchOp.{BranchOp}
use Rattle.rv_isa.specs.declared.Instr.TheVariants as instr
use Rattle.rv_asm.specs.declared.error.AsmError.{AsmError}
use Rattle.rv_asm.specs.declared.error.AsmError.TheVariants as error
use Rattle.rv_asm.specs.declared.item.Item.{Item}
use Rattle.rv_asm.specs.declared.item.Item.TheVariants.{Half, Word, Jump, Branch}
use Rattle.rv_asm.specs.Source.{Source, halves_in, place_of_label}

-- from one place to another in bytes: a halfword has 2
abbrev pub bytes_between : (place target : ℕ) → ℤ
bytes_between place target = pos (2 * target) -ℤ pos (2 * place)

-- from -limit to limit - 1
abbrev pub fits_signed : ℕ → ℤ → Bool
fits_signed limit (pos n) = nat_lt n limit
fits_signed limit (negsuc n) = nat_lt n limit

-- the offset of a jump has 21 bits and that of a branch 13, both signed (the RISC-V unprivileged
-- manual, formats J and B)
abbrev pub jump_limit : ℕ
jump_limit = 2 ^ 20

abbrev pub branch_limit : ℕ
branch_limit = 2 ^ 12

abbrev pub jump_by : (place rd : ℕ) → ℤ → Result ℕ AsmError
jump_by place rd offset =
    if fits_signed jump_limit offset then Ok (encoding (instr.Jal rd offset)) else
    Err (error.Reach place)

abbrev pub branch_by : (place : ℕ) → BranchOp → (rs1 rs2 : ℕ) → ℤ → Result ℕ AsmError
branch_by place op rs1 rs2 offset =
    if fits_signed branch_limit offset then Ok (encoding (instr.Branch op rs1 rs2 offset)) else Err
    (error.Reach place)

-- what a function makes of the distance to a label that stands before this place, if it is set
abbrev pub towards : (place label : ℕ) → (ℤ → Result ℕ AsmError) → Option ℕ → Result ℕ AsmError
towards place label make None = Err (error.Unset label)
towards place label make (Some target) = make (bytes_between place target)

-- the number of an item at a place
abbrev pub word_of : List (Option ℕ) → ℕ → Item → Result ℕ AsmError
word_of labels place (Half value) = Ok value
word_of labels place (Word value) = Ok value
word_of labels place (Jump rd label) =
    towards place label (jump_by place rd) (place_of_label labels label)
word_of labels place (Branch op rs1 rs2 label) =
    towards place label (branch_by place op rs1 rs2) (place_of_label labels label)

-- numbers of two and of four bytes, little-endian
abbrev pub bytes_of_half : ℕ → List ℕ
bytes_of_half n = to_le_bytes w16 n

abbrev pub bytes_of_word : ℕ → List ℕ
bytes_of_word n = to_le_bytes w32 n

-- the bytes of an item by its number
abbrev pub bytes_by : Item → ℕ → List ℕ
bytes_by (Half value) n = bytes_of_half n
bytes_by (Word value) n = bytes_of_word n
bytes_by (Jump rd label) n = bytes_of_word n
bytes_by (Branch op rs1 rs2 label) n = bytes_of_word n

-- an item by its number, before others; of two errors the first
abbrev pub before : Item → Result ℕ AsmError → Result (List ℕ) AsmError → Result (List ℕ) AsmError
before item (Err e) rest = Err e
before item (Ok n) (Err e) = Err e
before item (Ok n) (Ok bytes) = Ok (bytes_by item n ++ bytes)

-- the bytes of items from a place on
unfoldable pub code_from : List (Option ℕ) → ℕ → List Item → Result (List ℕ) AsmError
code_from labels place [] = Ok []
code_from labels place (item ∷ items) =
    before item (word_of labels place item) (code_from labels (place + halves_in item) items)

abbrev pub assembled : Source → Result (List ℕ) AsmError
assembled source = code_from source.labels 0 source.items
