-- The instruction that a halfword expands to: the extension C of RV32, without floating point.
-- RISC-V unprivileged manual, edition 20191213, chapter 16: loads and stores 16.3, control transfer
-- 16.4, integer computation 16.5, hints 16.7, and the listings by quadrant in 16.8.
use Rattle.std.specs.Prelude.{ℕ, ◌+◌, ◌*◌, ◌/◌, ◌%◌, ◌^◌, ◌≡◌, ◌⊎◌, Bool, false, ℤ, pos, List, []}
use Rattle.std.specs.Prelude.{◌∷◌}
use Rattle.std.specs.Prelude.{◌++◌, Option, None, Some, option_map, option_and_then, ◌==◌, filter}
use Rattle.std.specs.Prelude.{if◌then◌else◌, length, ◌≤◌}
use Rattle.std.specs.Int.{w32, cast_unsigned}
use Rattle.rv_isa.specs.Fields.{field, sign_extended}
use Rattle.rv_isa.specs.Meaning.{Row, fits, found, meaning}
use Rattle.rv_isa.specs.declared.BranchOp.{BranchOp}
use Rattle.rv_isa.specs.declared.BranchOp.TheVariants.{Beq, Bne}
use Rattle.rv_isa.specs.declared.LoadOp.TheVariants.{Lw}
use Rattle.rv_isa.specs.declared.StoreOp.TheVariants.{Sw}
use Rattle.rv_isa.specs.declared.ImmOp.TheVariants.{Addi, Andi}
use Rattle.rv_isa.specs.declared.ShiftOp.{ShiftOp}
use Rattle.rv_isa.specs.declared.ShiftOp.TheVariants.{Slli, Srli, Srai}
use Rattle.rv_isa.specs.declared.RegOp.{RegOp}
use Rattle.rv_isa.specs.declared.RegOp.TheVariants.{Add, Sub, Xor, Or, And}
use Rattle.rv_isa.specs.declared.Instr.{Instr}
use Rattle.rv_isa.specs.declared.Instr.TheVariants.{Upper, Jal, Jalr, Branch, Load, Store, Imm}
use Rattle.rv_isa.specs.declared.Instr.TheVariants.{Shift, Reg, Amo, Fence, Ecall, Ebreak}

-- ---- registers: bits 11:7 and 6:2, or the three bits 9:7 and 4:2 for x8 to x15

abbrev pub rd : ℕ → ℕ
rd half = field 11 7 half

abbrev pub rs2 : ℕ → ℕ
rs2 half = field 6 2 half

abbrev pub high_register : ℕ → ℕ
high_register half = 8 + field 9 7 half

abbrev pub low_register : ℕ → ℕ
low_register half = 8 + field 4 2 half

-- ---- immediates: bits high:low of the halfword stand from bit `at` on

abbrev pub bits_from : (at high low : ℕ) → ℕ → ℕ
bits_from at high low half = field high low half * 2 ^ at

-- C.ADDI4SPN
abbrev pub imm_wide : ℕ → ℕ
imm_wide half = bits_from 4 12 11 half + bits_from 6 10 7 half + bits_from 2 6 6 half + bits_from 3
    5 5 half

-- C.LW, C.SW
abbrev pub imm_word : ℕ → ℕ
imm_word half = bits_from 3 12 10 half + bits_from 2 6 6 half + bits_from 6 5 5 half

-- C.LWSP
abbrev pub imm_load : ℕ → ℕ
imm_load half = bits_from 5 12 12 half + bits_from 2 6 4 half + bits_from 6 3 2 half

-- C.SWSP
abbrev pub imm_store : ℕ → ℕ
imm_store half = bits_from 2 12 9 half + bits_from 6 8 7 half

-- C.ADDI, C.LI, C.ANDI, and the amounts of shifts
abbrev pub bits_small : ℕ → ℕ
bits_small half = bits_from 5 12 12 half + bits_from 0 6 2 half

abbrev pub imm_small : ℕ → ℤ
imm_small half = sign_extended 6 (bits_small half)

-- C.LUI
abbrev pub bits_upper : ℕ → ℕ
bits_upper half = bits_from 17 12 12 half + bits_from 12 6 2 half

abbrev pub imm_upper : ℕ → ℕ
imm_upper half = cast_unsigned w32 (sign_extended 18 (bits_upper half))

-- C.ADDI16SP
abbrev pub bits_stack : ℕ → ℕ
bits_stack half =
    bits_from 9 12 12 half + bits_from 4 6 6 half + bits_from 6 5 5 half + bits_from 7 4 3 half
    + bits_from 5 2 2 half

abbrev pub imm_stack : ℕ → ℤ
imm_stack half = sign_extended 10 (bits_stack half)

-- C.JAL, C.J
abbrev pub bits_jump : ℕ → ℕ
bits_jump half =
    bits_from 11 12 12 half + bits_from 4 11 11 half + bits_from 8 10 9 half + bits_from 10 8 8 half
    + bits_from 6 7 7 half + bits_from 7 6 6 half + bits_from 1 5 3 half + bits_from 5 2 2 half

abbrev pub imm_jump : ℕ → ℤ
imm_jump half = sign_extended 12 (bits_jump half)

-- C.BEQZ, C.BNEZ
abbrev pub bits_branch : ℕ → ℕ
bits_branch half =
    bits_from 8 12 12 half + bits_from 3 11 10 half + bits_from 6 6 5 half + bits_from 1 4 3 half
    + bits_from 5 2 2 half

abbrev pub imm_branch : ℕ → ℤ
imm_branch half = sign_extended 9 (bits_branch half)

-- ---- what a row makes of the halfword (16.3 to 16.5); None is a reserved encoding

abbrev pub unless : {A : Type 0} → Bool → A → Option A
unless b a = if b then None else Some a

-- the register x2 is the stack pointer
abbrev pub addi4spn : ℕ → Option Instr
addi4spn half =
    unless (imm_wide half == 0) (Imm Addi (low_register half) 2 (pos (imm_wide half)))

abbrev pub c_lw : ℕ → Option Instr
c_lw half = Some (Load Lw (low_register half) (high_register half) (pos (imm_word half)))

abbrev pub c_sw : ℕ → Option Instr
c_sw half = Some (Store Sw (high_register half) (low_register half) (pos (imm_word half)))

abbrev pub c_addi : ℕ → Option Instr
c_addi half = Some (Imm Addi (rd half) (rd half) (imm_small half))

abbrev pub jal : ℕ → Option Instr
jal half = Some (Jal 1 (imm_jump half))

abbrev pub c_li : ℕ → Option Instr
c_li half = Some (Imm Addi (rd half) 0 (imm_small half))

abbrev pub addi16sp : ℕ → Option Instr
addi16sp half = unless (bits_stack half == 0) (Imm Addi 2 2 (imm_stack half))

abbrev pub c_lui : ℕ → Option Instr
c_lui half = unless (bits_upper half == 0) (Upper false (rd half) (imm_upper half))

-- C.ADDI16SP where rd is x2, else C.LUI
abbrev pub lui_or_addi16sp : ℕ → Option Instr
lui_or_addi16sp half = if rd half == 2 then addi16sp half else c_lui half

abbrev pub shift_right : ShiftOp → ℕ → Option Instr
shift_right op half = Some (Shift op (high_register half) (high_register half) (rs2 half))

abbrev pub c_andi : ℕ → Option Instr
c_andi half = Some (Imm Andi (high_register half) (high_register half) (imm_small half))

abbrev pub register : RegOp → ℕ → Option Instr
register op half = Some (Reg op (high_register half) (high_register half) (low_register half))

abbrev pub j : ℕ → Option Instr
j half = Some (Jal 0 (imm_jump half))

abbrev pub branch : BranchOp → ℕ → Option Instr
branch op half = Some (Branch op (high_register half) 0 (imm_branch half))

abbrev pub c_slli : ℕ → Option Instr
c_slli half = Some (Shift Slli (rd half) (rd half) (rs2 half))

abbrev pub lwsp : ℕ → Option Instr
lwsp half = unless (rd half == 0) (Load Lw (rd half) 2 (pos (imm_load half)))

-- C.JR
abbrev pub jr : ℕ → Option Instr
jr half = unless (rd half == 0) (Jalr 0 (rd half) (pos 0))

-- C.JR where bits 6:2 are 0, else C.MV
abbrev pub jr_or_mv : ℕ → Option Instr
jr_or_mv half = if rs2 half == 0 then jr half else Some (Reg Add (rd half) 0 (rs2 half))

-- C.EBREAK where bits 11:7 are 0 too, else C.JALR
abbrev pub ebreak_or_jalr : ℕ → Option Instr
ebreak_or_jalr half = Some (if rd half == 0 then Ebreak else Jalr 1 (rd half) (pos 0))

-- C.EBREAK or C.JALR where bits 6:2 are 0, else C.ADD
abbrev pub jalr_or_add : ℕ → Option Instr
jalr_or_add half =
    if rs2 half == 0 then ebreak_or_jalr half
    else Some (Reg Add (rd half) (rd half) (rs2 half))

abbrev pub swsp : ℕ → Option Instr
swsp half = Some (Store Sw 2 (rs2 half) (pos (imm_store half)))

-- ---- the table, in the manual's order (16.8): quadrant is bits 1:0, funct3 bits 15:13

-- by the quadrant and funct3 alone
abbrev pub by_funct3 : (quadrant funct3 : ℕ) → (ℕ → Option Instr) → Row (ℕ → Option Instr)
by_funct3 quadrant funct3 name =
    record { mask = 0xE003; value = funct3 * 2 ^ 13 + quadrant; name = name }

-- and bit 12
abbrev pub by_bit12 : (quadrant funct3 bit12 : ℕ) → (ℕ → Option Instr) → Row (ℕ → Option Instr)
by_bit12 quadrant funct3 bit12 name =
    record { mask = 0xF003; value = funct3 * 2 ^ 13 + bit12 * 2 ^ 12 + quadrant; name = name }

-- in quadrant 01 with funct3 100, by bits 11:10
abbrev pub by_funct2 : (funct2 : ℕ) → (ℕ → Option Instr) → Row (ℕ → Option Instr)
by_funct2 funct2 name =
    record { mask = 0xEC03; value = 0b100 * 2 ^ 13 + funct2 * 2 ^ 10 + 0b01; name = name }

-- and with bit 12 clear
abbrev pub by_funct2_alone : (funct2 : ℕ) → (ℕ → Option Instr) → Row (ℕ → Option Instr)
by_funct2_alone funct2 name =
    record { mask = 0xFC03; value = 0b100 * 2 ^ 13 + funct2 * 2 ^ 10 + 0b01; name = name }

-- with bit 12 clear and bits 11:10 set, by bits 6:5
abbrev pub by_operation : (operation : ℕ) → (ℕ → Option Instr) → Row (ℕ → Option Instr)
by_operation operation name = record {
  mask = 0xFC63;
  value = 0b100 * 2 ^ 13 + 0b11 * 2 ^ 10 + operation * 2 ^ 5 + 0b01;
  name = name;
}

-- quadrant 01, funct3 100
abbrev pub arithmetic_rows : List (Row (ℕ → Option Instr))
arithmetic_rows =
    by_funct2_alone 0b00 (shift_right Srli) ∷  -- C.SRLI, 16.5
    by_funct2_alone 0b01 (shift_right Srai) ∷  -- C.SRAI, 16.5
    by_funct2 0b10 c_andi ∷  -- C.ANDI, 16.5
    by_operation 0b00 (register Sub) ∷  -- C.SUB, 16.5
    by_operation 0b01 (register Xor) ∷  -- C.XOR, 16.5
    by_operation 0b10 (register Or) ∷  -- C.OR, 16.5
    by_operation 0b11 (register And) ∷  -- C.AND, 16.5
    []

-- quadrant 10, funct3 000
abbrev pub shift_rows : List (Row (ℕ → Option Instr))
shift_rows =
    by_bit12 0b10 0b000 0 c_slli ∷  -- C.SLLI, 16.5
    []

-- quadrant 10, funct3 100
abbrev pub move_rows : List (Row (ℕ → Option Instr))
move_rows =
    by_bit12 0b10 0b100 0 jr_or_mv ∷  -- C.JR, 16.4, and C.MV, 16.5
    by_bit12 0b10 0b100 1 jalr_or_add ∷  -- C.EBREAK, 16.5, C.JALR, 16.4, and C.ADD, 16.5
    []

unfoldable pub rows : List (Row (ℕ → Option Instr))
rows =
    by_funct3 0b00 0b000 addi4spn  -- C.ADDI4SPN, 16.5
    ∷ by_funct3 0b00 0b010 c_lw  -- C.LW, 16.3
    ∷ by_funct3 0b00 0b110 c_sw  -- C.SW, 16.3
    ∷ by_funct3 0b01 0b000 c_addi  -- C.NOP and C.ADDI, 16.5
    ∷ by_funct3 0b01 0b001 jal  -- C.JAL, 16.4
    ∷ by_funct3 0b01 0b010 c_li  -- C.LI, 16.5
    ∷ by_funct3 0b01 0b011 lui_or_addi16sp  -- C.ADDI16SP and C.LUI, 16.5
    ∷ arithmetic_rows
    ++ by_funct3 0b01 0b101 j  -- C.J, 16.4
    ∷ by_funct3 0b01 0b110 (branch Beq)  -- C.BEQZ, 16.4
    ∷ by_funct3 0b01 0b111 (branch Bne)  -- C.BNEZ, 16.4
    ∷ shift_rows
    ++ by_funct3 0b10 0b010 lwsp  -- C.LWSP, 16.3
    ∷ move_rows
    ++ by_funct3 0b10 0b110 swsp  -- C.SWSP, 16.3
    ∷ []

-- what the first row that fits makes of a halfword; at most one does
abbrev pub expanded : List (Row (ℕ → Option Instr)) → ℕ → Option Instr
expanded rows half = option_and_then (λ instr. instr half) (found rows half)

-- the instruction of the one row that fits
unfoldable pub expansion : ℕ → Option Instr
expansion half = expanded rows half

-- at most one row fits a halfword
unfoldable pub IsSingle : ℕ → Type 0
IsSingle half = length (filter (λ row. fits half row) rows) ≤ 1

-- ---- which instructions there are

-- one that a halfword may expand to
abbrev pub IsShort : Instr → Type 0
IsShort (Upper auipc rd imm) = auipc ≡ false
IsShort (Jal rd offset) = Unit {0}
IsShort (Jalr rd rs1 offset) = Unit {0}
IsShort (Branch op rs1 rs2 offset) = (op ≡ Beq) ⊎ (op ≡ Bne)
IsShort (Load op rd rs1 offset) = op ≡ Lw
IsShort (Store op rs1 rs2 offset) = op ≡ Sw
IsShort (Imm op rd rs1 imm) = (op ≡ Addi) ⊎ (op ≡ Andi)
IsShort (Shift op rd rs1 amount) = Unit {0}
IsShort (Reg op rd rs1 rs2) = (op ≡ Add) ⊎ (op ≡ Sub) ⊎ (op ≡ Xor) ⊎ (op ≡ Or) ⊎ (op ≡ And)
IsShort (Amo op rd rs1 rs2 aq rl) = ⊥
IsShort (Fence fetch rd rs1 imm) = ⊥
IsShort Ecall = ⊥
IsShort Ebreak = Unit {0}

-- ---- a code: a word, whose low two bits are 11, or a halfword alone, whose low two bits aren't

-- an instruction with its size in bytes
abbrev pub sized : ℕ → Instr → Instr × ℕ
sized size instr = (instr, size)

-- what a code means
abbrev pub instruction : ℕ → Option (Instr × ℕ)
instruction code =
    if code % 4 == 3 then option_map (sized 4) (meaning code)
    else option_map (sized 2) (expansion code)
