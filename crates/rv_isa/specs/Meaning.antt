-- The instruction that a word stands for: RV32I, M, A and Zifencei, by the RISC-V unprivileged
-- manual's instruction listings.
use Rattle.std.specs.Prelude.{ℕ, ◌+◌, ◌*◌, ◌^◌, Bool, true, false, List, [], ◌∷◌, ◌++◌, map, Option}
use Rattle.std.specs.Prelude.{None, Some, option_map, ◌==◌, if◌then◌else◌, bit_and, filter, length}
use Rattle.std.specs.Prelude.{◌≤◌}
use Rattle.rv_isa.specs.Fields.{field, rd, rs1, rs2, flag, imm_i, imm_s, imm_b, imm_u, imm_j}
use Rattle.rv_isa.specs.declared.BranchOp.{BranchOp}
use Rattle.rv_isa.specs.declared.BranchOp.TheVariants.{Beq, Bne, Blt, Bge, Bltu, Bgeu}
use Rattle.rv_isa.specs.declared.LoadOp.{LoadOp}
use Rattle.rv_isa.specs.declared.LoadOp.TheVariants.{Lb, Lh, Lw, Lbu, Lhu}
use Rattle.rv_isa.specs.declared.StoreOp.{StoreOp}
use Rattle.rv_isa.specs.declared.StoreOp.TheVariants.{Sb, Sh, Sw}
use Rattle.rv_isa.specs.declared.ImmOp.TheVariants.{Addi, Slti, Sltiu, Xori, Ori, Andi}
use Rattle.rv_isa.specs.declared.ShiftOp.TheVariants.{Slli, Srli, Srai}
use Rattle.rv_isa.specs.declared.Arithmetic.{Arithmetic}
use Rattle.rv_isa.specs.declared.Arithmetic.TheVariants.{Plain, Shifts}
use Rattle.rv_isa.specs.declared.RegOp.{RegOp}
use Rattle.rv_isa.specs.declared.RegOp.TheVariants.{Add, Sub, Sll, Slt, Sltu, Xor, Srl, Sra, Or}
use Rattle.rv_isa.specs.declared.RegOp.TheVariants.{And, Mul, Mulh, Mulhsu, Mulhu, Div, Divu, Rem}
use Rattle.rv_isa.specs.declared.RegOp.TheVariants.{Remu}
use Rattle.rv_isa.specs.declared.AmoOp.{AmoOp}
use Rattle.rv_isa.specs.declared.AmoOp.TheVariants.{LrW, ScW, AmoswapW, AmoaddW, AmoxorW, AmoandW}
use Rattle.rv_isa.specs.declared.AmoOp.TheVariants.{AmoorW, AmominW, AmomaxW, AmominuW, AmomaxuW}
use Rattle.rv_isa.specs.declared.SystemOp.{SystemOp}
use Rattle.rv_isa.specs.declared.SystemOp.TheVariants.{Ecall as EcallOp, Ebreak as EbreakOp}
use Rattle.rv_isa.specs.declared.Instr.{Instr}
use Rattle.rv_isa.specs.declared.Instr.TheVariants.{Upper, Jal, Jalr, Branch, Load, Store, Imm}
use Rattle.rv_isa.specs.declared.Instr.TheVariants.{Shift, Reg, Amo, Fence, Ecall, Ebreak}

-- ---- tables of rows

-- A word that has this value under the mask carries this name.
pub record Row (A : Type 0) : Type 0 where
  pub mask : ℕ
  pub value : ℕ
  pub name : A

abbrev pub fits : {A : Type 0} → ℕ → Row A → Bool
fits word row = bit_and word row.mask == row.value

-- the name in the first row that fits; at most one does
unfoldable pub found : {A : Type 0} → List (Row A) → ℕ → Option A
found [] word = None
found (row ∷ rows) word = if fits word row then Some row.name else found rows word

-- ---- which bits a row looks at

-- what a word's opcode and funct3 say, under the mask that leaves them
abbrev pub with_funct3 : ℕ → ℕ → ℕ
with_funct3 opcode funct3 = funct3 * 2 ^ 12 + opcode

-- what its opcode, funct3 and funct7 say
abbrev pub with_funct7 : ℕ → ℕ → ℕ → ℕ
with_funct7 opcode funct7 funct3 = funct7 * 2 ^ 25 + funct3 * 2 ^ 12 + opcode

-- the opcode alone
abbrev pub by_opcode : {A : Type 0} → ℕ → A → Row A
by_opcode opcode name = record { mask = 0x0000007F; value = opcode; name = name }

abbrev pub by_funct3 : {A : Type 0} → ℕ → ℕ → A → Row A
by_funct3 opcode funct3 name =
    record { mask = 0x0000707F; value = with_funct3 opcode funct3; name = name }

abbrev pub by_funct7 : {A : Type 0} → ℕ → ℕ → ℕ → A → Row A
by_funct7 opcode funct7 funct3 name =
    record { mask = 0xFE00707F; value = with_funct7 opcode funct7 funct3; name = name }

-- opcode 0x2F and funct3 2 with bits 31:27
abbrev pub with_funct5 : ℕ → ℕ
with_funct5 funct5 = funct5 * 2 ^ 27 + 2 * 2 ^ 12 + 0x2F

-- where the bits aq and rl are free
abbrev pub by_funct5 : {A : Type 0} → ℕ → A → Row A
by_funct5 funct5 name = record { mask = 0xF800707F; value = with_funct5 funct5; name = name }

-- the same with rs2 0
abbrev pub by_funct5_alone : {A : Type 0} → ℕ → A → Row A
by_funct5_alone funct5 name = record { mask = 0xF9F0707F; value = with_funct5 funct5; name = name }

-- the whole word
abbrev pub by_word : {A : Type 0} → ℕ → A → Row A
by_word word name = record { mask = 0xFFFFFFFF; value = word; name = name }

-- ---- the rows of each opcode, in the manual's order

abbrev pub branch_rows : List (Row BranchOp)
branch_rows =
    by_funct3 0x63 0 Beq ∷
    by_funct3 0x63 1 Bne ∷
    by_funct3 0x63 4 Blt ∷
    by_funct3 0x63 5 Bge ∷
    by_funct3 0x63 6 Bltu ∷
    by_funct3 0x63 7 Bgeu ∷
    []

abbrev pub load_rows : List (Row LoadOp)
load_rows =
    by_funct3 0x03 0 Lb ∷
    by_funct3 0x03 1 Lh ∷
    by_funct3 0x03 2 Lw ∷
    by_funct3 0x03 4 Lbu ∷
    by_funct3 0x03 5 Lhu ∷
    []

abbrev pub store_rows : List (Row StoreOp)
store_rows =
    by_funct3 0x23 0 Sb ∷
    by_funct3 0x23 1 Sh ∷
    by_funct3 0x23 2 Sw ∷
    []

abbrev pub arithmetic_rows : List (Row Arithmetic)
arithmetic_rows =
    by_funct3 0x13 0 (Plain Addi) ∷
    by_funct3 0x13 2 (Plain Slti) ∷
    by_funct3 0x13 3 (Plain Sltiu) ∷
    by_funct3 0x13 4 (Plain Xori) ∷
    by_funct3 0x13 6 (Plain Ori) ∷
    by_funct3 0x13 7 (Plain Andi) ∷
    by_funct7 0x13 0x00 1 (Shifts Slli) ∷
    by_funct7 0x13 0x00 5 (Shifts Srli) ∷
    by_funct7 0x13 0x20 5 (Shifts Srai) ∷
    []

abbrev pub register_rows : List (Row RegOp)
register_rows =
    by_funct7 0x33 0x00 0 Add ∷
    by_funct7 0x33 0x20 0 Sub ∷
    by_funct7 0x33 0x00 1 Sll ∷
    by_funct7 0x33 0x00 2 Slt ∷
    by_funct7 0x33 0x00 3 Sltu ∷
    by_funct7 0x33 0x00 4 Xor ∷
    by_funct7 0x33 0x00 5 Srl ∷
    by_funct7 0x33 0x20 5 Sra ∷
    by_funct7 0x33 0x00 6 Or ∷
    by_funct7 0x33 0x00 7 And ∷
    []

-- fence, and fence.i of Zifencei: whether it is the fetch's
abbrev pub fence_rows : List (Row Bool)
fence_rows =
    by_funct3 0x0F 0 false ∷
    by_funct3 0x0F 1 true ∷
    []

abbrev pub system_rows : List (Row SystemOp)
system_rows =
    by_word 0x00000073 EcallOp ∷
    by_word 0x00100073 EbreakOp ∷
    []

-- M
abbrev pub multiply_rows : List (Row RegOp)
multiply_rows =
    by_funct7 0x33 0x01 0 Mul ∷
    by_funct7 0x33 0x01 1 Mulh ∷
    by_funct7 0x33 0x01 2 Mulhsu ∷
    by_funct7 0x33 0x01 3 Mulhu ∷
    by_funct7 0x33 0x01 4 Div ∷
    by_funct7 0x33 0x01 5 Divu ∷
    by_funct7 0x33 0x01 6 Rem ∷
    by_funct7 0x33 0x01 7 Remu ∷
    []

-- A
abbrev pub atomic_rows : List (Row AmoOp)
atomic_rows =
    by_funct5_alone 0b00010 LrW ∷
    by_funct5 0b00011 ScW ∷
    by_funct5 0b00001 AmoswapW ∷
    by_funct5 0b00000 AmoaddW ∷
    by_funct5 0b00100 AmoxorW ∷
    by_funct5 0b01100 AmoandW ∷
    by_funct5 0b01000 AmoorW ∷
    by_funct5 0b10000 AmominW ∷
    by_funct5 0b10100 AmomaxW ∷
    by_funct5 0b11000 AmominuW ∷
    by_funct5 0b11100 AmomaxuW ∷
    []

-- ---- the fields and the immediate that a format takes from the word

abbrev pub upper_row : Bool → ℕ → Instr
upper_row auipc word = Upper auipc (rd word) (imm_u word)

abbrev pub jal : ℕ → Instr
jal word = Jal (rd word) (imm_j word)

abbrev pub jalr : ℕ → Instr
jalr word = Jalr (rd word) (rs1 word) (imm_i word)

abbrev pub branch : BranchOp → ℕ → Instr
branch op word = Branch op (rs1 word) (rs2 word) (imm_b word)

abbrev pub load : LoadOp → ℕ → Instr
load op word = Load op (rd word) (rs1 word) (imm_i word)

abbrev pub store : StoreOp → ℕ → Instr
store op word = Store op (rs1 word) (rs2 word) (imm_s word)

abbrev pub arithmetic : Arithmetic → ℕ → Instr
arithmetic (Plain op) word = Imm op (rd word) (rs1 word) (imm_i word)
arithmetic (Shifts op) word = Shift op (rd word) (rs1 word) (rs2 word)

abbrev pub register : RegOp → ℕ → Instr
register op word = Reg op (rd word) (rs1 word) (rs2 word)

abbrev pub amo : AmoOp → ℕ → Instr
amo op word = Amo op (rd word) (rs1 word) (rs2 word) (flag 26 word) (flag 25 word)

abbrev pub fence : Bool → ℕ → Instr
fence fetch word = Fence fetch (rd word) (rs1 word) (field 31 20 word)

abbrev pub system : SystemOp → ℕ → Instr
system EcallOp word = Ecall
system EbreakOp word = Ebreak

-- ---- the table

abbrev pub with_name : {A B : Type 0} → (A → B) → Row A → Row B
with_name f row = record { mask = row.mask; value = row.value; name = f row.name }

abbrev pub with_fields : {A : Type 0} → (A → ℕ → Instr) → List (Row A) → List (Row (ℕ → Instr))
with_fields instr rows = map (with_name instr) rows

unfoldable pub base_rows : List (Row (ℕ → Instr))
base_rows =
    by_opcode 0x37 (upper_row false) ∷ by_opcode 0x17 (upper_row true)
    ∷ by_opcode 0x6F jal ∷ by_funct3 0x67 0 jalr
    ∷ with_fields branch branch_rows
    ++ with_fields load load_rows
    ++ with_fields store store_rows
    ++ with_fields arithmetic arithmetic_rows
    ++ with_fields register register_rows
    ++ with_fields fence fence_rows
    ++ with_fields system system_rows

unfoldable pub rows : List (Row (ℕ → Instr))
rows = base_rows ++ with_fields register multiply_rows ++ with_fields amo atomic_rows

-- the instruction of the one row that fits
unfoldable pub meaning : ℕ → Option Instr
meaning word = option_map (λ instr. instr word) (found rows word)

-- ---- the operation of a word within one opcode, by the same rows

unfoldable pub branch_in : ℕ → Option BranchOp
branch_in word = found branch_rows word

unfoldable pub load_in : ℕ → Option LoadOp
load_in word = found load_rows word

unfoldable pub store_in : ℕ → Option StoreOp
store_in word = found store_rows word

unfoldable pub arithmetic_in : ℕ → Option Arithmetic
arithmetic_in word = found arithmetic_rows word

unfoldable pub register_in : ℕ → Option RegOp
register_in word = found (register_rows ++ multiply_rows) word

unfoldable pub amo_in : ℕ → Option AmoOp
amo_in word = found atomic_rows word

unfoldable pub fence_in : ℕ → Option Bool
fence_in word = found fence_rows word

unfoldable pub system_in : ℕ → Option SystemOp
system_in word = found system_rows word

-- ---- at most one row fits a word

unfoldable pub IsSingle : ℕ → Type 0
IsSingle word = length (filter (λ row. fits word row) rows) ≤ 1
