-- Which of the commonest instructions a form's is, and at which a run of lines ends. This project's
-- own rules.
use Rattle.std.specs.Prelude.{ℕ, ◌≡◌, Bool, true, false, Option, Some, unwrap_or}
use Rattle.std.specs.Prelude.{if◌then◌else◌}
use Rattle.rv_isa.specs.declared.Instr.{Instr}
use Rattle.rv_isa.specs.declared.Instr.TheVariants as instr
use Rattle.rv_isa.specs.declared.BranchOp.TheVariants as branches
use Rattle.rv_isa.specs.declared.LoadOp.TheVariants as loads
use Rattle.rv_isa.specs.declared.StoreOp.TheVariants as stores
use Rattle.rv_isa.specs.declared.ImmOp.TheVariants as imms
use Rattle.rv_isa.specs.declared.ShiftOp.TheVariants as shifts
use Rattle.rv_isa.specs.declared.RegOp.TheVariants as regs
use Rattle.rv_form.specs.declared.form.Form.{Form}
use Rattle.rv_form.specs.Forms.{instr_of_form}
use Rattle.code_pages.specs.declared.kind.Kind.{Kind}
use Rattle.code_pages.specs.declared.kind.Kind.TheVariants as kind

-- What a form stands for that is of this kind and of this size: a branch may be turned, which is
-- taken where the comparison of its kind doesn't hold. Another one that goes on is any with a
-- meaning; of an end nothing is said.
abbrev pub instr_of_kind : Kind → (turned : Bool) → Form → (size : ℕ) → Option (Instr × ℕ)
instr_of_kind kind.Addi turned f size = Some (instr.Imm imms.Addi f.rd f.rs1 f.imm, size)
instr_of_kind kind.Lw turned f size = Some (instr.Load loads.Lw f.rd f.rs1 f.imm, size)
instr_of_kind kind.Sw turned f size = Some (instr.Store stores.Sw f.rs1 f.rs2 f.imm, size)
instr_of_kind kind.Lbu turned f size = Some (instr.Load loads.Lbu f.rd f.rs1 f.imm, size)
instr_of_kind kind.Equal turned f size =
    Some (instr.Branch (if turned then branches.Bne else branches.Beq) f.rs1 f.rs2 f.imm, size)
instr_of_kind kind.Below turned f size =
    Some (instr.Branch (if turned then branches.Bgeu else branches.Bltu) f.rs1 f.rs2 f.imm, size)
instr_of_kind kind.Less turned f size =
    Some (instr.Branch (if turned then branches.Bge else branches.Blt) f.rs1 f.rs2 f.imm, size)
instr_of_kind kind.Add turned f size = Some (instr.Reg regs.Add f.rd f.rs1 f.rs2, size)
instr_of_kind kind.Slli turned f size = Some (instr.Shift shifts.Slli f.rd f.rs1 f.rs2, size)
instr_of_kind kind.Srli turned f size = Some (instr.Shift shifts.Srli f.rd f.rs1 f.rs2, size)
instr_of_kind kind.Xor turned f size = Some (instr.Reg regs.Xor f.rd f.rs1 f.rs2, size)
instr_of_kind kind.And turned f size = Some (instr.Reg regs.And f.rd f.rs1 f.rs2, size)
instr_of_kind kind.Jal turned f size = Some (instr.Jal f.rd f.imm, size)
instr_of_kind kind.Jalr turned f size = Some (instr.Jalr f.rd f.rs1 f.imm, size)
instr_of_kind kind.Other turned f size =
    Some ((unwrap_or (instr_of_form f) (instr.Ecall, 0)).0, size)
instr_of_kind kind.End turned f size = instr_of_form f

-- The form stands for an instruction of this kind and size.
abbrev pub IsOfKind : Kind → (turned : Bool) → Form → (size : ℕ) → Type 0
IsOfKind kind turned f size = instr_of_form f ≡ instr_of_kind kind turned f size

-- a run ends at a line of this kind
abbrev pub ends : Kind → Bool
ends kind.Jal = true
ends kind.Jalr = true
ends kind.End = true
ends k = false

-- The instructions of this kind write a register other than x0; those that name x0 are of another.
abbrev pub writes : Kind → Bool
writes kind.Addi = true
writes kind.Lw = true
writes kind.Lbu = true
writes kind.Add = true
writes kind.Slli = true
writes kind.Srli = true
writes kind.Xor = true
writes kind.And = true
writes k = false
