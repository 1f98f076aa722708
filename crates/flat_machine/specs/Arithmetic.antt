-- What the instructions compute, on numbers below 2^32. RISC-V unprivileged manual, edition
-- 20191213.
use Rattle.std.specs.Prelude.{ℕ, ◌+◌, ◌-◌, ◌*◌, ◌/◌, ◌%◌, ◌^◌, Bool, not, ℤ, pos, ◌*ℤ◌, ◌==◌}
use Rattle.std.specs.Prelude.{nat_lt, int_lt, int_div, int_rem, if◌then◌else◌, bit_and, bit_or}
use Rattle.std.specs.Prelude.{bit_xor}
use Rattle.std.specs.Int.{w8, w16, w32, cast_signed, cast_unsigned, int_shr}
use Rattle.dos_world.specs.declared.Size.{Size}
use Rattle.dos_world.specs.declared.Size.TheVariants.{Byte, Half, Word}
use Rattle.rv_isa.specs.declared.BranchOp.{BranchOp}
use Rattle.rv_isa.specs.declared.BranchOp.TheVariants.{Beq, Bne, Blt, Bge, Bltu, Bgeu}
use Rattle.rv_isa.specs.declared.LoadOp.{LoadOp}
use Rattle.rv_isa.specs.declared.LoadOp.TheVariants.{Lb, Lh, Lw, Lbu, Lhu}
use Rattle.rv_isa.specs.declared.StoreOp.{StoreOp}
use Rattle.rv_isa.specs.declared.StoreOp.TheVariants.{Sb, Sh, Sw}
use Rattle.rv_isa.specs.declared.ImmOp.{ImmOp}
use Rattle.rv_isa.specs.declared.ImmOp.TheVariants.{Addi, Slti, Sltiu, Xori, Ori, Andi}
use Rattle.rv_isa.specs.declared.ShiftOp.{ShiftOp}
use Rattle.rv_isa.specs.declared.ShiftOp.TheVariants.{Slli, Srli, Srai}
use Rattle.rv_isa.specs.declared.RegOp.{RegOp}
use Rattle.rv_isa.specs.declared.RegOp.TheVariants.{Add, Sub, Sll, Slt, Sltu, Xor, Srl, Sra, Or}
use Rattle.rv_isa.specs.declared.RegOp.TheVariants.{And, Mul, Mulh, Mulhsu, Mulhu, Div, Divu, Rem}
use Rattle.rv_isa.specs.declared.RegOp.TheVariants.{Remu}

-- ---- numbers of 32 bits

-- the signed value of 32 bits
abbrev pub signed : ℕ → ℤ
signed a = cast_signed w32 a

-- the 32 bits of a signed number
abbrev pub unsigned : ℤ → ℕ
unsigned z = cast_unsigned w32 z

-- a number and a signed offset, modulo 2^32
abbrev pub plus : ℕ → ℤ → ℕ
plus a z = (a + unsigned z) % 2 ^ 32

-- 1 where it holds, else 0
abbrev pub test : Bool → ℕ
test b = if b then 1 else 0

-- the logical left shift. Section 2.4.
abbrev pub shifted_left : ℕ → ℕ → ℕ
shifted_left a n = a * 2 ^ n % 2 ^ 32

-- the logical right shift. Section 2.4.
abbrev pub shifted_right : ℕ → ℕ → ℕ
shifted_right a n = a / 2 ^ n

-- the arithmetic right shift: the sign bit is copied into the upper bits. Section 2.4.
abbrev pub shifted_signed : ℕ → ℕ → ℕ
shifted_signed a n = unsigned (int_shr (signed a) n)

-- ---- registers with registers

-- Division rounds toward zero; by zero it gives all ones. -2^31 by -1 gives -2^31. Section 7.2.
abbrev pub quotient : ℕ → ℕ → ℕ
quotient a b = if b == 0 then 0xFFFFFFFF else unsigned (int_div (signed a) (signed b))

-- The remainder has the dividend's sign; by zero it is the dividend. -2^31 by -1 gives 0. Section
-- 7.2.
abbrev pub remainder : ℕ → ℕ → ℕ
remainder a b = if b == 0 then a else unsigned (int_rem (signed a) (signed b))

-- Sections 2.4 (a shift takes the low five bits of rs2), 7.1 (the upper 32 bits of a product of two
-- numbers, signed or not) and 7.2.
abbrev pub register_result : RegOp → ℕ → ℕ → ℕ
register_result Add a b = (a + b) % 2 ^ 32
register_result Sub a b = (a + (2 ^ 32 - b)) % 2 ^ 32
register_result Sll a b = shifted_left a (b % 32)
register_result Slt a b = test (int_lt (signed a) (signed b))
register_result Sltu a b = test (nat_lt a b)
register_result Xor a b = bit_xor a b
register_result Srl a b = shifted_right a (b % 32)
register_result Sra a b = shifted_signed a (b % 32)
register_result Or a b = bit_or a b
register_result And a b = bit_and a b
register_result Mul a b = a * b % 2 ^ 32
register_result Mulh a b = unsigned (int_shr (signed a *ℤ signed b) 32)
register_result Mulhsu a b = unsigned (int_shr (signed a *ℤ pos b) 32)
register_result Mulhu a b = a * b / 2 ^ 32
register_result Div a b = quotient a b
register_result Divu a b = if b == 0 then 0xFFFFFFFF else a / b
register_result Rem a b = remainder a b
register_result Remu a b = if b == 0 then a else a % b

-- ---- registers with immediates

-- Section 2.4; sltiu compares with the sign-extended immediate as an unsigned number.
abbrev pub immediate_result : ImmOp → ℕ → ℤ → ℕ
immediate_result Addi a imm = plus a imm
immediate_result Slti a imm = test (int_lt (signed a) imm)
immediate_result Sltiu a imm = test (nat_lt a (unsigned imm))
immediate_result Xori a imm = bit_xor a (unsigned imm)
immediate_result Ori a imm = bit_or a (unsigned imm)
immediate_result Andi a imm = bit_and a (unsigned imm)

-- Section 2.4.
abbrev pub shift_result : ShiftOp → ℕ → ℕ → ℕ
shift_result Slli a n = shifted_left a n
shift_result Srli a n = shifted_right a n
shift_result Srai a n = shifted_signed a n

-- ---- branches

-- whether a branch is taken. Section 2.5.
abbrev pub is_taken : BranchOp → ℕ → ℕ → Bool
is_taken Beq a b = a == b
is_taken Bne a b = not (a == b)
is_taken Blt a b = int_lt (signed a) (signed b)
is_taken Bge a b = not (int_lt (signed a) (signed b))
is_taken Bltu a b = nat_lt a b
is_taken Bgeu a b = not (nat_lt a b)

-- ---- loads and stores

-- how much a load takes. Section 2.6.
abbrev pub load_size : LoadOp → Size
load_size Lb = Byte
load_size Lh = Half
load_size Lw = Word
load_size Lbu = Byte
load_size Lhu = Half

-- What a load makes of the number that it takes: lb and lh extend its sign. Section 2.6.
abbrev pub load_result : LoadOp → ℕ → ℕ
load_result Lb n = unsigned (cast_signed w8 (n % 2 ^ 8))
load_result Lh n = unsigned (cast_signed w16 (n % 2 ^ 16))
load_result Lw n = n
load_result Lbu n = n
load_result Lhu n = n

-- how much a store takes. Section 2.6.
abbrev pub store_size : StoreOp → Size
store_size Sb = Byte
store_size Sh = Half
store_size Sw = Word

-- ---- AMOs

-- the lesser of two signed numbers. Section 8.4.
abbrev pub lesser : ℕ → ℕ → ℕ
lesser a b = if int_lt (signed a) (signed b) then a else b

-- the greater of two signed numbers. Section 8.4.
abbrev pub greater : ℕ → ℕ → ℕ
greater a b = if int_lt (signed a) (signed b) then b else a
