-- What a form stands for: an instruction by its operation and fields. This project's own way to put
-- the manual's instructions.
use Rattle.std.specs.Prelude.{ℕ, ℤ, ◌≡◌, ◌≢◌, true, false, Option, Some, None, option_map}
use Rattle.std.specs.Int.{w32, cast_unsigned}
use Rattle.rv_isa.specs.Compressed.{instruction}
use Rattle.rv_isa.specs.Meaning.{meaning}
use Rattle.rv_isa.specs.declared.Instr.{Instr}
use Rattle.rv_isa.specs.declared.Instr.TheVariants.{Upper, Jal, Jalr, Branch, Load, Store, Imm}
use Rattle.rv_isa.specs.declared.Instr.TheVariants.{Shift, Reg, Amo, Fence, Ecall, Ebreak}
use Rattle.rv_isa.specs.declared.BranchOp.TheVariants as branches
use Rattle.rv_isa.specs.declared.LoadOp.TheVariants as loads
use Rattle.rv_isa.specs.declared.StoreOp.TheVariants as stores
use Rattle.rv_isa.specs.declared.ImmOp.TheVariants as imms
use Rattle.rv_isa.specs.declared.ShiftOp.TheVariants as shifts
use Rattle.rv_isa.specs.declared.RegOp.TheVariants as regs
use Rattle.rv_isa.specs.declared.AmoOp.TheVariants as amos
use Rattle.rv_form.specs.declared.form.Op.{Op}
use Rattle.rv_form.specs.declared.form.Op.TheVariants as op
use Rattle.rv_form.specs.declared.form.Form.{Form}

-- the instruction of an operation with these fields, and its size in bytes
unfoldable pub instr_of : Op → (rd rs1 rs2 : ℕ) → (imm : ℤ) → Option (Instr × ℕ)
instr_of op.Illegal rd rs1 rs2 imm = None
instr_of op.Lui rd rs1 rs2 imm = Some (Upper false rd (cast_unsigned w32 imm), 4)
instr_of op.Auipc rd rs1 rs2 imm = Some (Upper true rd (cast_unsigned w32 imm), 4)
instr_of op.Jal rd rs1 rs2 imm = Some (Jal rd imm, 4)
instr_of op.Jalr rd rs1 rs2 imm = Some (Jalr rd rs1 imm, 4)
instr_of op.Beq rd rs1 rs2 imm = Some (Branch branches.Beq rs1 rs2 imm, 4)
instr_of op.Bne rd rs1 rs2 imm = Some (Branch branches.Bne rs1 rs2 imm, 4)
instr_of op.Blt rd rs1 rs2 imm = Some (Branch branches.Blt rs1 rs2 imm, 4)
instr_of op.Bge rd rs1 rs2 imm = Some (Branch branches.Bge rs1 rs2 imm, 4)
instr_of op.Bltu rd rs1 rs2 imm = Some (Branch branches.Bltu rs1 rs2 imm, 4)
instr_of op.Bgeu rd rs1 rs2 imm = Some (Branch branches.Bgeu rs1 rs2 imm, 4)
instr_of op.Lb rd rs1 rs2 imm = Some (Load loads.Lb rd rs1 imm, 4)
instr_of op.Lh rd rs1 rs2 imm = Some (Load loads.Lh rd rs1 imm, 4)
instr_of op.Lw rd rs1 rs2 imm = Some (Load loads.Lw rd rs1 imm, 4)
instr_of op.Lbu rd rs1 rs2 imm = Some (Load loads.Lbu rd rs1 imm, 4)
instr_of op.Lhu rd rs1 rs2 imm = Some (Load loads.Lhu rd rs1 imm, 4)
instr_of op.Sb rd rs1 rs2 imm = Some (Store stores.Sb rs1 rs2 imm, 4)
instr_of op.Sh rd rs1 rs2 imm = Some (Store stores.Sh rs1 rs2 imm, 4)
instr_of op.Sw rd rs1 rs2 imm = Some (Store stores.Sw rs1 rs2 imm, 4)
instr_of op.Addi rd rs1 rs2 imm = Some (Imm imms.Addi rd rs1 imm, 4)
instr_of op.Slti rd rs1 rs2 imm = Some (Imm imms.Slti rd rs1 imm, 4)
instr_of op.Sltiu rd rs1 rs2 imm = Some (Imm imms.Sltiu rd rs1 imm, 4)
instr_of op.Xori rd rs1 rs2 imm = Some (Imm imms.Xori rd rs1 imm, 4)
instr_of op.Ori rd rs1 rs2 imm = Some (Imm imms.Ori rd rs1 imm, 4)
instr_of op.Andi rd rs1 rs2 imm = Some (Imm imms.Andi rd rs1 imm, 4)
instr_of op.Slli rd rs1 rs2 imm = Some (Shift shifts.Slli rd rs1 rs2, 4)
instr_of op.Srli rd rs1 rs2 imm = Some (Shift shifts.Srli rd rs1 rs2, 4)
instr_of op.Srai rd rs1 rs2 imm = Some (Shift shifts.Srai rd rs1 rs2, 4)
instr_of op.Add rd rs1 rs2 imm = Some (Reg regs.Add rd rs1 rs2, 4)
instr_of op.Sub rd rs1 rs2 imm = Some (Reg regs.Sub rd rs1 rs2, 4)
instr_of op.Sll rd rs1 rs2 imm = Some (Reg regs.Sll rd rs1 rs2, 4)
instr_of op.Slt rd rs1 rs2 imm = Some (Reg regs.Slt rd rs1 rs2, 4)
instr_of op.Sltu rd rs1 rs2 imm = Some (Reg regs.Sltu rd rs1 rs2, 4)
instr_of op.Xor rd rs1 rs2 imm = Some (Reg regs.Xor rd rs1 rs2, 4)
instr_of op.Srl rd rs1 rs2 imm = Some (Reg regs.Srl rd rs1 rs2, 4)
instr_of op.Sra rd rs1 rs2 imm = Some (Reg regs.Sra rd rs1 rs2, 4)
instr_of op.Or rd rs1 rs2 imm = Some (Reg regs.Or rd rs1 rs2, 4)
instr_of op.And rd rs1 rs2 imm = Some (Reg regs.And rd rs1 rs2, 4)
instr_of op.Mul rd rs1 rs2 imm = Some (Reg regs.Mul rd rs1 rs2, 4)
instr_of op.Mulh rd rs1 rs2 imm = Some (Reg regs.Mulh rd rs1 rs2, 4)
instr_of op.Mulhsu rd rs1 rs2 imm = Some (Reg regs.Mulhsu rd rs1 rs2, 4)
instr_of op.Mulhu rd rs1 rs2 imm = Some (Reg regs.Mulhu rd rs1 rs2, 4)
instr_of op.Div rd rs1 rs2 imm = Some (Reg regs.Div rd rs1 rs2, 4)
instr_of op.Divu rd rs1 rs2 imm = Some (Reg regs.Divu rd rs1 rs2, 4)
instr_of op.Rem rd rs1 rs2 imm = Some (Reg regs.Rem rd rs1 rs2, 4)
instr_of op.Remu rd rs1 rs2 imm = Some (Reg regs.Remu rd rs1 rs2, 4)
instr_of op.LrW rd rs1 rs2 imm = Some (Amo amos.LrW rd rs1 rs2 false false, 4)
instr_of op.ScW rd rs1 rs2 imm = Some (Amo amos.ScW rd rs1 rs2 false false, 4)
instr_of op.AmoswapW rd rs1 rs2 imm = Some (Amo amos.AmoswapW rd rs1 rs2 false false, 4)
instr_of op.AmoaddW rd rs1 rs2 imm = Some (Amo amos.AmoaddW rd rs1 rs2 false false, 4)
instr_of op.AmoxorW rd rs1 rs2 imm = Some (Amo amos.AmoxorW rd rs1 rs2 false false, 4)
instr_of op.AmoandW rd rs1 rs2 imm = Some (Amo amos.AmoandW rd rs1 rs2 false false, 4)
instr_of op.AmoorW rd rs1 rs2 imm = Some (Amo amos.AmoorW rd rs1 rs2 false false, 4)
instr_of op.AmominW rd rs1 rs2 imm = Some (Amo amos.AmominW rd rs1 rs2 false false, 4)
instr_of op.AmomaxW rd rs1 rs2 imm = Some (Amo amos.AmomaxW rd rs1 rs2 false false, 4)
instr_of op.AmominuW rd rs1 rs2 imm = Some (Amo amos.AmominuW rd rs1 rs2 false false, 4)
instr_of op.AmomaxuW rd rs1 rs2 imm = Some (Amo amos.AmomaxuW rd rs1 rs2 false false, 4)
instr_of op.Fence rd rs1 rs2 imm = Some (Fence false 0 0 0, 4)
instr_of op.Ecall rd rs1 rs2 imm = Some (Ecall, 4)
instr_of op.Ebreak rd rs1 rs2 imm = Some (Ebreak, 4)
instr_of op.ShortLui rd rs1 rs2 imm = Some (Upper false rd (cast_unsigned w32 imm), 2)
instr_of op.ShortJal rd rs1 rs2 imm = Some (Jal rd imm, 2)
instr_of op.ShortJalr rd rs1 rs2 imm = Some (Jalr rd rs1 imm, 2)
instr_of op.ShortBeq rd rs1 rs2 imm = Some (Branch branches.Beq rs1 rs2 imm, 2)
instr_of op.ShortBne rd rs1 rs2 imm = Some (Branch branches.Bne rs1 rs2 imm, 2)
instr_of op.ShortLw rd rs1 rs2 imm = Some (Load loads.Lw rd rs1 imm, 2)
instr_of op.ShortSw rd rs1 rs2 imm = Some (Store stores.Sw rs1 rs2 imm, 2)
instr_of op.ShortAddi rd rs1 rs2 imm = Some (Imm imms.Addi rd rs1 imm, 2)
instr_of op.ShortAndi rd rs1 rs2 imm = Some (Imm imms.Andi rd rs1 imm, 2)
instr_of op.ShortSlli rd rs1 rs2 imm = Some (Shift shifts.Slli rd rs1 rs2, 2)
instr_of op.ShortSrli rd rs1 rs2 imm = Some (Shift shifts.Srli rd rs1 rs2, 2)
instr_of op.ShortSrai rd rs1 rs2 imm = Some (Shift shifts.Srai rd rs1 rs2, 2)
instr_of op.ShortAdd rd rs1 rs2 imm = Some (Reg regs.Add rd rs1 rs2, 2)
instr_of op.ShortSub rd rs1 rs2 imm = Some (Reg regs.Sub rd rs1 rs2, 2)
instr_of op.ShortXor rd rs1 rs2 imm = Some (Reg regs.Xor rd rs1 rs2, 2)
instr_of op.ShortOr rd rs1 rs2 imm = Some (Reg regs.Or rd rs1 rs2, 2)
instr_of op.ShortAnd rd rs1 rs2 imm = Some (Reg regs.And rd rs1 rs2, 2)
instr_of op.ShortEbreak rd rs1 rs2 imm = Some (Ebreak, 2)

-- An instruction without what has no effect: the order of an atomic one, and the fields of a fence.
abbrev pub plain : Instr → Instr
plain (Amo o rd rs1 rs2 aq rl) = Amo o rd rs1 rs2 false false
plain (Fence fetch rd rs1 imm) = Fence false 0 0 0
plain instr = instr

-- an instruction with its size, without what has no effect
abbrev pub plain_sized : Instr × ℕ → Instr × ℕ
plain_sized found = (plain found.0, found.1)

-- the instruction of a form, and its size
abbrev pub instr_of_form : Form → Option (Instr × ℕ)
instr_of_form form = instr_of form.op form.rd form.rs1 form.rs2 form.imm

-- The form stands for what the code means, a word or a halfword alone.
abbrev pub IsFormOf : ℕ → Form → Type 0
IsFormOf code form = instr_of_form form ≡ option_map plain_sized (instruction code)

-- what a word means, and its size, without what has no effect
abbrev pub of_word : Instr → Instr × ℕ
of_word instr = (plain instr, 4)

-- The form stands for what the word means.
abbrev pub IsFormOfWord : ℕ → Form → Type 0
IsFormOfWord word form = instr_of_form form ≡ option_map of_word (meaning word)

-- None of the opcodes that RV32I, M, A and Zifencei have. The manual's chapter "RV32/64G
-- Instruction Set Listings".
abbrev pub IsNoOpcode : ℕ → Type 0
IsNoOpcode o =
    (o ≢ 0x37) × (o ≢ 0x17) × (o ≢ 0x6F) × (o ≢ 0x67) × (o ≢ 0x63) × (o ≢ 0x03) × (o ≢ 0x23)
    × (o ≢ 0x13) × (o ≢ 0x33) × (o ≢ 0x0F) × (o ≢ 0x73) × (o ≢ 0x2F)
