-- A halfword for each row of the table, as GNU's disassembler reads it: what it expands to.
use Rattle.std.specs.Prelude.{◌≡◌, refl, ℕ, pos, negsuc, Option, Some, None, Bool, true, false}
use Rattle.std.specs.Prelude.{List, []}
use Rattle.std.specs.Prelude.{◌∷◌, map, if◌then◌else◌}
use Rattle.rv_isa.specs.Meaning.{Row, fits, found}
use Rattle.rv_isa.specs.Compressed.{expansion, rows}
use Rattle.rv_isa.specs.declared.Instr.{Instr}
use Rattle.rv_isa.specs.declared.Instr.TheVariants.{Upper, Jal, Jalr, Branch, Load, Store, Imm}
use Rattle.rv_isa.specs.declared.Instr.TheVariants.{Shift, Reg, Ebreak}
use Rattle.rv_isa.specs.declared.BranchOp.TheVariants.{Beq, Bne}
use Rattle.rv_isa.specs.declared.LoadOp.TheVariants.{Lw}
use Rattle.rv_isa.specs.declared.StoreOp.TheVariants.{Sw}
use Rattle.rv_isa.specs.declared.ImmOp.TheVariants.{Addi, Andi}
use Rattle.rv_isa.specs.declared.ShiftOp.TheVariants.{Slli, Srli, Srai}
use Rattle.rv_isa.specs.declared.RegOp.TheVariants.{Add, Sub, Xor, Or, And}

-- a halfword, and the instruction that it expands to: a row each, in the order of the rows
unfoldable halves : List (ℕ × Instr)
halves =
    (0x0A7C, Imm Addi 15 2 (pos 284)) ∷
    (0x49A4, Load Lw 9 11 (pos 80)) ∷
    (0xD944, Store Sw 10 9 (pos 52)) ∷
    (0x1189, Imm Addi 3 3 (negsuc 29)) ∷
    (0x3251, Jal 1 (negsuc 1659)) ∷
    (0x5301, Imm Addi 6 0 (negsuc 31)) ∷
    (0x6C95, Upper false 25 0x5000) ∷
    (0x8075, Shift Srli 8 8 29) ∷
    (0x85B5, Shift Srai 11 11 13) ∷
    (0x984D, Imm Andi 8 8 (negsuc 12)) ∷
    (0x8C8D, Reg Sub 9 9 11) ∷
    (0x8F3D, Reg Xor 14 14 15) ∷
    (0x8F55, Reg Or 14 14 13) ∷
    (0x8CE1, Reg And 9 9 8) ∷
    (0xB7B1, Jal 0 (negsuc 179)) ∷
    (0xD2E5, Branch Beq 13 0 (negsuc 31)) ∷
    (0xFD95, Branch Bne 11 0 (negsuc 195)) ∷
    (0x01E6, Shift Slli 3 3 25) ∷
    (0x5B76, Load Lw 22 2 (pos 124)) ∷
    (0x895A, Reg Add 18 0 22) ∷
    (0x920E, Reg Add 4 4 3) ∷
    (0xCE4A, Store Sw 2 18 (pos 28)) ∷
    []

they_stand_for : map (λ line. expansion line.0) halves ≡ map (λ line. Some line.1) halves
unfolding halves expansion rows found
they_stand_for = refl

-- one halfword for each row, in the same order, and none left over
unfoldable fit_in_order : {A : Type 0} → List (Row A) → List (ℕ × Instr) → Bool
fit_in_order [] [] = true
fit_in_order [] (_ ∷ _) = false
fit_in_order (_ ∷ _) [] = false
fit_in_order (row ∷ others) (line ∷ lines) =
    if fits line.0 row then fit_in_order others lines else false

no_row_is_left_out : fit_in_order rows halves ≡ true
unfolding fit_in_order halves rows
no_row_is_left_out = refl

-- the other names of rows that have two: C.ADDI16SP, C.JR, C.JALR and C.EBREAK
unfoldable others : List (ℕ × Instr)
others =
    (0x710D, Imm Addi 2 2 (negsuc 351)) ∷
    (0x8982, Jalr 0 19 (pos 0)) ∷
    (0x9982, Jalr 1 19 (pos 0)) ∷
    (0x9002, Ebreak) ∷
    []

the_others_stand_for : map (λ line. expansion line.0) others ≡ map (λ line. Some line.1) others
unfolding others expansion rows found
the_others_stand_for = refl

-- reserved: all zeros; C.ADDI4SPN, C.ADDI16SP, C.LUI of 0; a shift by 32 or more; a sum of 64 bits;
-- C.LWSP into x0; C.JR by x0; and the floating-point forms
unfoldable reserved : List ℕ
reserved =
    0x0000 ∷ 0x0004 ∷ 0x6101 ∷ 0x6081 ∷ 0x9005 ∷ 0x9C01 ∷ 0x9C21 ∷ 0x1082 ∷ 0x4002 ∷ 0x8002
    ∷ 0x2000 ∷ 0x6000 ∷ 0xA000 ∷ 0xE000 ∷ 0x8000 ∷ 0x2002 ∷ 0x6002 ∷ 0xA002 ∷ 0xE002 ∷ []

they_stand_for_nothing : map expansion reserved ≡ map (λ half. None) reserved
unfolding reserved expansion rows found
they_stand_for_nothing = refl
