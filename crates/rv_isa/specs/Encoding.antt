-- The word of an instruction: the RISC-V unprivileged manual, RV32I, "Base Instruction Formats",
-- and its instruction listings for the opcodes, funct3, funct5 and funct7.
use Rattle.std.specs.Prelude.{ℕ, suc, ◌+◌, ◌-◌, ◌*◌, ◌^◌, Bool, ℤ, pos, negsuc, if◌then◌else◌}
use Rattle.rv_isa.specs.Fields.{field}
use Rattle.rv_isa.specs.declared.BranchOp.{BranchOp}
use Rattle.rv_isa.specs.declared.BranchOp.TheVariants.{Beq, Bne, Blt, Bge, Bltu, Bgeu}
use Rattle.rv_isa.specs.declared.LoadOp.{LoadOp}
use Rattle.rv_isa.specs.declared.LoadOp.TheVariants.{Lb, Lh, Lw, Lbu, Lhu}
use Rattle.rv_isa.specs.declared.StoreOp.{StoreOp}
use Rattle.rv_isa.specs.declared.StoreOp.TheVariants.{Sb, Sh, Sw}
use Rattle.rv_isa.specs.declared.ImmOp.{ImmOp}
use Rattle.rv_isa.specs.declared.ImmOp.TheVariants.{Addi, Slti, Sltiu, Xori, Ori, Andi}
use Rattle.rv_isa.specs.declared.ShiftOp.{ShiftOp}
use Rattle.rv_isa.specs.declared.ShiftOp.TheVariants.{Slli, Srli, Srai}
use Rattle.rv_isa.specs.declared.RegOp.{RegOp}
use Rattle.rv_isa.specs.declared.RegOp.TheVariants.{Add, Sub, Sll, Slt, Sltu, Xor, Srl, Sra, Or}
use Rattle.rv_isa.specs.declared.RegOp.TheVariants.{And, Mul, Mulh, Mulhsu, Mulhu, Div, Divu, Rem}
use Rattle.rv_isa.specs.declared.RegOp.TheVariants.{Remu}
use Rattle.rv_isa.specs.declared.AmoOp.{AmoOp}
use Rattle.rv_isa.specs.declared.AmoOp.TheVariants.{LrW, ScW, AmoswapW, AmoaddW, AmoxorW, AmoandW}
use Rattle.rv_isa.specs.declared.AmoOp.TheVariants.{AmoorW, AmominW, AmomaxW, AmominuW, AmomaxuW}
use Rattle.rv_isa.specs.declared.Instr.{Instr}
use Rattle.rv_isa.specs.declared.Instr.TheVariants.{Upper, Jal, Jalr, Branch, Load, Store, Imm}
use Rattle.rv_isa.specs.declared.Instr.TheVariants.{Shift, Reg, Amo, Fence, Ecall, Ebreak}

-- a signed number of this many bits, in two's complement
abbrev pub twos : ℕ → ℤ → ℕ
twos width (pos n) = n
twos width (negsuc n) = 2 ^ width - suc n

abbrev pub one_if : Bool → ℕ
one_if b = if b then 1 else 0

-- ---- the six formats; an immediate is given as its bits

abbrev pub r_type : (opcode funct3 funct7 rd rs1 rs2 : ℕ) → ℕ
r_type opcode funct3 funct7 rd rs1 rs2 =
    funct7 * 2 ^ 25 + rs2 * 2 ^ 20 + rs1 * 2 ^ 15 + funct3 * 2 ^ 12 + rd * 2 ^ 7 + opcode

abbrev pub i_type : (opcode funct3 rd rs1 imm : ℕ) → ℕ
i_type opcode funct3 rd rs1 imm =
    imm * 2 ^ 20 + rs1 * 2 ^ 15 + funct3 * 2 ^ 12 + rd * 2 ^ 7 + opcode

abbrev pub s_type : (opcode funct3 rs1 rs2 imm : ℕ) → ℕ
s_type opcode funct3 rs1 rs2 imm = r_type opcode funct3 (field 11 5 imm) (field 4 0 imm) rs1 rs2

abbrev pub b_type : (opcode funct3 rs1 rs2 imm : ℕ) → ℕ
b_type opcode funct3 rs1 rs2 imm =
    r_type opcode funct3
    (field 12 12 imm * 2 ^ 6 + field 10 5 imm) (field 4 1 imm * 2 + field 11 11 imm) rs1 rs2

abbrev pub u_type : (opcode rd imm : ℕ) → ℕ
u_type opcode rd imm = imm + rd * 2 ^ 7 + opcode

abbrev pub j_type : (opcode rd imm : ℕ) → ℕ
j_type opcode rd imm =
    field 20 20 imm * 2 ^ 31 + field 10 1 imm * 2 ^ 21 + field 11 11 imm * 2 ^ 20
    + field 19 12 imm * 2 ^ 12 + rd * 2 ^ 7 + opcode

-- ---- funct3, funct5 and funct7 of each operation

abbrev pub branch_funct3 : BranchOp → ℕ
branch_funct3 Beq = 0
branch_funct3 Bne = 1
branch_funct3 Blt = 4
branch_funct3 Bge = 5
branch_funct3 Bltu = 6
branch_funct3 Bgeu = 7

abbrev pub load_funct3 : LoadOp → ℕ
load_funct3 Lb = 0
load_funct3 Lh = 1
load_funct3 Lw = 2
load_funct3 Lbu = 4
load_funct3 Lhu = 5

abbrev pub store_funct3 : StoreOp → ℕ
store_funct3 Sb = 0
store_funct3 Sh = 1
store_funct3 Sw = 2

abbrev pub imm_funct3 : ImmOp → ℕ
imm_funct3 Addi = 0
imm_funct3 Slti = 2
imm_funct3 Sltiu = 3
imm_funct3 Xori = 4
imm_funct3 Ori = 6
imm_funct3 Andi = 7

abbrev pub shift_funct3 : ShiftOp → ℕ
shift_funct3 Slli = 1
shift_funct3 Srli = 5
shift_funct3 Srai = 5

abbrev pub shift_funct7 : ShiftOp → ℕ
shift_funct7 Slli = 0
shift_funct7 Srli = 0
shift_funct7 Srai = 0x20

abbrev pub reg_funct3 : RegOp → ℕ
reg_funct3 Add = 0
reg_funct3 Sub = 0
reg_funct3 Sll = 1
reg_funct3 Slt = 2
reg_funct3 Sltu = 3
reg_funct3 Xor = 4
reg_funct3 Srl = 5
reg_funct3 Sra = 5
reg_funct3 Or = 6
reg_funct3 And = 7
reg_funct3 Mul = 0
reg_funct3 Mulh = 1
reg_funct3 Mulhsu = 2
reg_funct3 Mulhu = 3
reg_funct3 Div = 4
reg_funct3 Divu = 5
reg_funct3 Rem = 6
reg_funct3 Remu = 7

abbrev pub reg_funct7 : RegOp → ℕ
reg_funct7 Sub = 0x20
reg_funct7 Sra = 0x20
reg_funct7 Mul = 1
reg_funct7 Mulh = 1
reg_funct7 Mulhsu = 1
reg_funct7 Mulhu = 1
reg_funct7 Div = 1
reg_funct7 Divu = 1
reg_funct7 Rem = 1
reg_funct7 Remu = 1
reg_funct7 _ = 0

abbrev pub amo_funct5 : AmoOp → ℕ
amo_funct5 LrW = 0b00010
amo_funct5 ScW = 0b00011
amo_funct5 AmoswapW = 0b00001
amo_funct5 AmoaddW = 0b00000
amo_funct5 AmoxorW = 0b00100
amo_funct5 AmoandW = 0b01100
amo_funct5 AmoorW = 0b01000
amo_funct5 AmominW = 0b10000
amo_funct5 AmomaxW = 0b10100
amo_funct5 AmominuW = 0b11000
amo_funct5 AmomaxuW = 0b11100

-- funct5 with the bits aq and rl behind it
abbrev pub amo_funct7 : AmoOp → Bool → Bool → ℕ
amo_funct7 op aq rl = amo_funct5 op * 2 ^ 2 + one_if aq * 2 + one_if rl

-- ---- the word

abbrev pub encoding : Instr → ℕ
encoding (Upper auipc rd imm) = u_type (if auipc then 0x17 else 0x37) rd imm
encoding (Jal rd offset) = j_type 0x6F rd (twos 21 offset)
encoding (Jalr rd rs1 offset) = i_type 0x67 0 rd rs1 (twos 12 offset)
encoding (Branch op rs1 rs2 offset) = b_type 0x63 (branch_funct3 op) rs1 rs2 (twos 13 offset)
encoding (Load op rd rs1 offset) = i_type 0x03 (load_funct3 op) rd rs1 (twos 12 offset)
encoding (Store op rs1 rs2 offset) = s_type 0x23 (store_funct3 op) rs1 rs2 (twos 12 offset)
encoding (Imm op rd rs1 imm) = i_type 0x13 (imm_funct3 op) rd rs1 (twos 12 imm)
encoding (Shift op rd rs1 amount) = r_type 0x13 (shift_funct3 op) (shift_funct7 op) rd rs1 amount
encoding (Reg op rd rs1 rs2) = r_type 0x33 (reg_funct3 op) (reg_funct7 op) rd rs1 rs2
encoding (Amo op rd rs1 rs2 aq rl) = r_type 0x2F 2 (amo_funct7 op aq rl) rd rs1 rs2
encoding (Fence fetch rd rs1 imm) = i_type 0x0F (one_if fetch) rd rs1 imm
encoding Ecall = 0x00000073
encoding Ebreak = 0x00100073
