-- Kinds of operations of a form. The manual's chapters on RV32I, M and A.
use Rattle.std.specs.Prelude.{◌≡◌, ◌⊎◌}
use Rattle.rv_form.specs.declared.form.Op.{Op}
use Rattle.rv_form.specs.declared.form.Op.TheVariants as op

-- loads and stores
abbrev pub IsAccess : Op → Type 0
IsAccess o =
    (o ≡ op.Lb) ⊎ (o ≡ op.Lh) ⊎ (o ≡ op.Lw) ⊎ (o ≡ op.Lbu) ⊎ (o ≡ op.Lhu) ⊎ (o ≡ op.Sb)
    ⊎ (o ≡ op.Sh) ⊎ (o ≡ op.Sw)

-- the AMOs
abbrev pub IsAmo : Op → Type 0
IsAmo o =
    (o ≡ op.AmoswapW) ⊎ (o ≡ op.AmoaddW) ⊎ (o ≡ op.AmoxorW) ⊎ (o ≡ op.AmoandW) ⊎ (o ≡ op.AmoorW)
    ⊎ (o ≡ op.AmominW) ⊎ (o ≡ op.AmomaxW) ⊎ (o ≡ op.AmominuW) ⊎ (o ≡ op.AmomaxuW)

-- on a register and a constant
abbrev pub IsOnImmediate : Op → Type 0
IsOnImmediate o =
    (o ≡ op.Addi) ⊎ (o ≡ op.Slti) ⊎ (o ≡ op.Sltiu) ⊎ (o ≡ op.Xori) ⊎ (o ≡ op.Ori) ⊎ (o ≡ op.Andi)
    ⊎ (o ≡ op.Slli) ⊎ (o ≡ op.Srli) ⊎ (o ≡ op.Srai)

-- on two registers, of RV32I
abbrev pub IsOnRegisters : Op → Type 0
IsOnRegisters o =
    (o ≡ op.Add) ⊎ (o ≡ op.Sub) ⊎ (o ≡ op.Sll) ⊎ (o ≡ op.Slt) ⊎ (o ≡ op.Sltu) ⊎ (o ≡ op.Xor)
    ⊎ (o ≡ op.Srl) ⊎ (o ≡ op.Sra) ⊎ (o ≡ op.Or) ⊎ (o ≡ op.And)

-- multiplications and divisions, of the extension M
abbrev pub IsMultiplication : Op → Type 0
IsMultiplication o =
    (o ≡ op.Mul) ⊎ (o ≡ op.Mulh) ⊎ (o ≡ op.Mulhsu) ⊎ (o ≡ op.Mulhu) ⊎ (o ≡ op.Div)
    ⊎ (o ≡ op.Divu) ⊎ (o ≡ op.Rem) ⊎ (o ≡ op.Remu)

-- ---- those of the instructions of two bytes

-- on a register and a constant
abbrev pub IsShortImmediate : Op → Type 0
IsShortImmediate o =
    (o ≡ op.ShortLui) ⊎ (o ≡ op.ShortAddi) ⊎ (o ≡ op.ShortAndi) ⊎ (o ≡ op.ShortSlli)
    ⊎ (o ≡ op.ShortSrli) ⊎ (o ≡ op.ShortSrai)

-- on two registers
abbrev pub IsShortRegister : Op → Type 0
IsShortRegister o =
    (o ≡ op.ShortAdd) ⊎ (o ≡ op.ShortSub) ⊎ (o ≡ op.ShortXor) ⊎ (o ≡ op.ShortOr)
    ⊎ (o ≡ op.ShortAnd)

-- jumps and branches
abbrev pub IsShortJump : Op → Type 0
IsShortJump o =
    (o ≡ op.ShortJal) ⊎ (o ≡ op.ShortJalr) ⊎ (o ≡ op.ShortBeq) ⊎ (o ≡ op.ShortBne)

-- loads and stores
abbrev pub IsShortAccess : Op → Type 0
IsShortAccess o = (o ≡ op.ShortLw) ⊎ (o ≡ op.ShortSw)
