-- Which instructions have a word: each field is in its format's range.
use Rattle.std.specs.Prelude.{◌≡◌, ℕ, ◌%◌, ◌^◌, ◌<◌, ℤ, pos, negsuc, ◌≤ℤ◌}
use Rattle.rv_isa.specs.declared.AmoOp.{AmoOp}
use Rattle.rv_isa.specs.declared.AmoOp.TheVariants.{LrW}
use Rattle.rv_isa.specs.declared.Instr.{Instr}
use Rattle.rv_isa.specs.declared.Instr.TheVariants.{Upper, Jal, Jalr, Branch, Load, Store, Imm}
use Rattle.rv_isa.specs.declared.Instr.TheVariants.{Shift, Reg, Amo, Fence, Ecall, Ebreak}

-- the registers x0 to x31
abbrev pub IsRegister : ℕ → Type 0
IsRegister r = r < 32

abbrev pub IsEven : ℤ → Type 0
IsEven (pos n) = n % 2 ≡ 0
IsEven (negsuc n) = n % 2 ≡ 1

-- ---- the immediates by format: 12 bits for I and S, 13 for B and 21 for J, signed

abbrev pub IsImmediate : ℤ → Type 0
IsImmediate z = (negsuc 2047 ≤ℤ z) × (z ≤ℤ pos 2047)

abbrev pub IsBranchOffset : ℤ → Type 0
IsBranchOffset z = (negsuc 4095 ≤ℤ z) × (z ≤ℤ pos 4094) × IsEven z

abbrev pub IsJumpOffset : ℤ → Type 0
IsJumpOffset z = (negsuc 1048575 ≤ℤ z) × (z ≤ℤ pos 1048574) × IsEven z

-- lr.w names no second register
abbrev pub IsSecond : AmoOp → ℕ → Type 0
IsSecond LrW rs2 = rs2 ≡ 0
IsSecond _ rs2 = IsRegister rs2

abbrev pub IsValid : Instr → Type 0
IsValid (Upper auipc rd imm) = IsRegister rd × (imm % 2 ^ 12 ≡ 0) × (imm < 2 ^ 32)
IsValid (Jal rd offset) = IsRegister rd × IsJumpOffset offset
IsValid (Jalr rd rs1 offset) = IsRegister rd × IsRegister rs1 × IsImmediate offset
IsValid (Branch op rs1 rs2 offset) = IsRegister rs1 × IsRegister rs2 × IsBranchOffset offset
IsValid (Load op rd rs1 offset) = IsRegister rd × IsRegister rs1 × IsImmediate offset
IsValid (Store op rs1 rs2 offset) = IsRegister rs1 × IsRegister rs2 × IsImmediate offset
IsValid (Imm op rd rs1 imm) = IsRegister rd × IsRegister rs1 × IsImmediate imm
IsValid (Shift op rd rs1 amount) = IsRegister rd × IsRegister rs1 × (amount < 32)
IsValid (Reg op rd rs1 rs2) = IsRegister rd × IsRegister rs1 × IsRegister rs2
IsValid (Amo op rd rs1 rs2 aq rl) = IsRegister rd × IsRegister rs1 × IsSecond op rs2
IsValid (Fence fetch rd rs1 imm) = IsRegister rd × IsRegister rs1 × (imm < 2 ^ 12)
IsValid Ecall = Unit {0}
IsValid Ebreak = Unit {0}
