-- A word for each row of the table, as GNU's assembler gives it: the definitions say what it stands
-- for, and give the word back.
use Rattle.std.specs.Prelude.{◌≡◌, refl, ℕ, pos, negsuc, Some, None, Bool, true, false, List, []}
use Rattle.std.specs.Prelude.{◌∷◌, map, if◌then◌else◌}
use Rattle.rv_isa.specs.Meaning.{Row, fits, meaning, rows, base_rows, found}
use Rattle.rv_isa.specs.Encoding.{encoding}
use Rattle.rv_isa.specs.declared.Instr.{Instr}
use Rattle.rv_isa.specs.declared.Instr.TheVariants.{Upper, Jal, Jalr, Branch, Load, Store, Imm}
use Rattle.rv_isa.specs.declared.Instr.TheVariants.{Shift, Reg, Amo, Fence, Ecall, Ebreak}
use Rattle.rv_isa.specs.declared.BranchOp.TheVariants.{Beq, Bne, Blt, Bge, Bltu, Bgeu}
use Rattle.rv_isa.specs.declared.LoadOp.TheVariants.{Lb, Lh, Lw, Lbu, Lhu}
use Rattle.rv_isa.specs.declared.StoreOp.TheVariants.{Sb, Sh, Sw}
use Rattle.rv_isa.specs.declared.ImmOp.TheVariants.{Addi, Slti, Sltiu, Xori, Ori, Andi}
use Rattle.rv_isa.specs.declared.ShiftOp.TheVariants.{Slli, Srli, Srai}
use Rattle.rv_isa.specs.declared.RegOp.TheVariants.{Add, Sub, Sll, Slt, Sltu, Xor, Srl, Sra, Or}
use Rattle.rv_isa.specs.declared.RegOp.TheVariants.{And, Mul, Mulh, Mulhsu, Mulhu, Div, Divu, Rem}
use Rattle.rv_isa.specs.declared.RegOp.TheVariants.{Remu}
use Rattle.rv_isa.specs.declared.AmoOp.TheVariants.{LrW, ScW, AmoswapW, AmoaddW, AmoxorW, AmoandW}
use Rattle.rv_isa.specs.declared.AmoOp.TheVariants.{AmoorW, AmominW, AmomaxW, AmominuW, AmomaxuW}

-- a word, and the instruction that it stands for: a row each, in the order of the rows
unfoldable words : List (ℕ × Instr)
words =
    (0xABCDE3B7, Upper false 7 0xABCDE000) ∷
    (0x00001F97, Upper true 31 0x1000) ∷
    (0xA5DA50EF, Jal 1 (negsuc 370083)) ∷
    (0xFFC280E7, Jalr 1 5 (negsuc 3)) ∷
    (0x2A6285E3, Branch Beq 5 6 (pos 2730)) ∷
    (0xD4629B63, Branch Bne 5 6 (negsuc 2729)) ∷
    (0x2A62C5E3, Branch Blt 5 6 (pos 2730)) ∷
    (0xD462DB63, Branch Bge 5 6 (negsuc 2729)) ∷
    (0x2A62E5E3, Branch Bltu 5 6 (pos 2730)) ∷
    (0xD462FB63, Branch Bgeu 5 6 (negsuc 2729)) ∷
    (0xFEC28383, Load Lb 7 5 (negsuc 19)) ∷
    (0xFF429383, Load Lh 7 5 (negsuc 11)) ∷
    (0xFFC2A383, Load Lw 7 5 (negsuc 3)) ∷
    (0x00C2C383, Load Lbu 7 5 (pos 12)) ∷
    (0x0142D383, Load Lhu 7 5 (pos 20)) ∷
    (0xC0628C23, Store Sb 5 6 (negsuc 999)) ∷
    (0xF8629E23, Store Sh 5 6 (negsuc 99)) ∷
    (0x3262A023, Store Sw 5 6 (pos 800)) ∷
    (0x80028393, Imm Addi 7 5 (negsuc 2047)) ∷
    (0x8002A393, Imm Slti 7 5 (negsuc 2047)) ∷
    (0x7FF2B393, Imm Sltiu 7 5 (pos 2047)) ∷
    (0x7FF2C393, Imm Xori 7 5 (pos 2047)) ∷
    (0x7FF2E393, Imm Ori 7 5 (pos 2047)) ∷
    (0x7FF2F393, Imm Andi 7 5 (pos 2047)) ∷
    (0x01F29393, Shift Slli 7 5 31) ∷
    (0x01F2D393, Shift Srli 7 5 31) ∷
    (0x41F2D393, Shift Srai 7 5 31) ∷
    (0x006283B3, Reg Add 7 5 6) ∷
    (0x406283B3, Reg Sub 7 5 6) ∷
    (0x006293B3, Reg Sll 7 5 6) ∷
    (0x0062A3B3, Reg Slt 7 5 6) ∷
    (0x0062B3B3, Reg Sltu 7 5 6) ∷
    (0x0062C3B3, Reg Xor 7 5 6) ∷
    (0x0062D3B3, Reg Srl 7 5 6) ∷
    (0x4062D3B3, Reg Sra 7 5 6) ∷
    (0x0062E3B3, Reg Or 7 5 6) ∷
    (0x0062F3B3, Reg And 7 5 6) ∷
    (0x0FF0000F, Fence false 0 0 0xFF) ∷
    (0x0000100F, Fence true 0 0 0) ∷
    (0x00000073, Ecall) ∷
    (0x00100073, Ebreak) ∷
    (0x026283B3, Reg Mul 7 5 6) ∷
    (0x026293B3, Reg Mulh 7 5 6) ∷
    (0x0262A3B3, Reg Mulhsu 7 5 6) ∷
    (0x0262B3B3, Reg Mulhu 7 5 6) ∷
    (0x0262C3B3, Reg Div 7 5 6) ∷
    (0x0262D3B3, Reg Divu 7 5 6) ∷
    (0x0262E3B3, Reg Rem 7 5 6) ∷
    (0x0262F3B3, Reg Remu 7 5 6) ∷
    (0x1202A3AF, Amo LrW 7 5 0 false true) ∷
    (0x1C62A3AF, Amo ScW 7 5 6 true false) ∷
    (0x0C62A3AF, Amo AmoswapW 7 5 6 true false) ∷
    (0x0262A3AF, Amo AmoaddW 7 5 6 false true) ∷
    (0x2262A3AF, Amo AmoxorW 7 5 6 false true) ∷
    (0x6262A3AF, Amo AmoandW 7 5 6 false true) ∷
    (0x4262A3AF, Amo AmoorW 7 5 6 false true) ∷
    (0x8262A3AF, Amo AmominW 7 5 6 false true) ∷
    (0xA262A3AF, Amo AmomaxW 7 5 6 false true) ∷
    (0xC262A3AF, Amo AmominuW 7 5 6 false true) ∷
    (0xE262A3AF, Amo AmomaxuW 7 5 6 false true) ∷
    []

they_stand_for : map (λ line. meaning line.0) words ≡ map (λ line. Some line.1) words
unfolding words meaning rows base_rows found
they_stand_for = refl

they_are_given_back : map (λ line. encoding line.1) words ≡ map (λ line. line.0) words
unfolding words
they_are_given_back = refl

-- one word for each row, in the same order, and none left over
unfoldable fit_in_order : {A : Type 0} → List (Row A) → List (ℕ × Instr) → Bool
fit_in_order [] [] = true
fit_in_order [] (_ ∷ _) = false
fit_in_order (_ ∷ _) [] = false
fit_in_order (row ∷ others) (line ∷ lines) =
    if fits line.0 row then fit_in_order others lines else false

no_row_is_left_out : fit_in_order rows words ≡ true
unfolding fit_in_order words rows base_rows
no_row_is_left_out = refl

-- ---- no row fits these; the last is an lr.w with a second register

all_ones : meaning 0xFFFFFFFF ≡ None
unfolding meaning rows base_rows found
all_ones = refl

all_zeros : meaning 0x00000000 ≡ None
unfolding meaning rows base_rows found
all_zeros = refl

lr_with_rs2 : meaning 0x1012A32F ≡ None
unfolding meaning rows base_rows found
lr_with_rs2 = refl
