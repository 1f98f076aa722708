-- What the instructions compute of words are words: numbers below 2^32.
use Rattle.std.proofs.Common.{ℕ, zero, suc, ◌-◌, ◌*◌, ◌/◌, ◌%◌, ◌^◌, ◌<◌, ◌≤◌, ℤ, pos, negsuc}
use Rattle.std.proofs.Common.{neg_ℤ, ◌*ℤ◌, Bool, true, false, arith, lit<, w8, w16, w32, w64, to_z}
use Rattle.std.proofs.Common.{SFits, unsigned_abs}
use Rattle.std.specs.Prelude.{◌==◌, nat_lt, int_lt, int_div, int_rem}
use Rattle.std.specs.Int.{int_shr, cast_signed}
use Rattle.std.specs.Int.Signed.{mag, quot_z, rem_z, mag_shr, mag_rem}
use Rattle.std.specs.Int.Bits.{and_lt}
use Rattle.std.proofs.Math.Nat.{div-le_self, mod-le}
use Rattle.rv_isa.specs.Valid.{IsImmediate}
use Rattle.std.proofs.lemmas.Nat.{mul-lt, or_lt, xor_lt}
use Rattle.std.proofs.lemmas.Int.{ints, fits_signed_mul}
use Rattle.std.proofs.lemmas.Bool.{cond_both}
use Rattle.rv_isa.specs.declared.RegOp.{RegOp}
use Rattle.rv_isa.specs.declared.RegOp.TheVariants.{Add, Sub, Sll, Slt, Sltu, Xor, Srl, Sra, Or}
use Rattle.rv_isa.specs.declared.RegOp.TheVariants.{And, Mul, Mulh, Mulhsu, Mulhu, Div, Divu, Rem}
use Rattle.rv_isa.specs.declared.RegOp.TheVariants.{Remu}
use Rattle.rv_isa.specs.declared.ImmOp.{ImmOp}
use Rattle.rv_isa.specs.declared.ImmOp.TheVariants.{Addi, Slti, Sltiu, Xori, Ori, Andi}
use Rattle.rv_isa.specs.declared.ShiftOp.{ShiftOp}
use Rattle.rv_isa.specs.declared.ShiftOp.TheVariants.{Slli, Srli, Srai}
use Rattle.rv_isa.specs.declared.LoadOp.{LoadOp}
use Rattle.rv_isa.specs.declared.LoadOp.TheVariants.{Lb, Lh, Lw, Lbu, Lhu}
use Rattle.flat_machine.specs.Arithmetic.{signed, unsigned, plus, test, quotient, remainder}
use Rattle.flat_machine.specs.Arithmetic.{register_result, immediate_result, shift_result}
use Rattle.flat_machine.specs.Arithmetic.{load_result}
use Rattle.dos_world.specs.Lawful.{IsWord}

-- ---- signed numbers

-- the 32 bits of a number of 32 bits or fewer
unsigned_word : (z : ℤ) → mag z < 2 ^ 32 → IsWord (unsigned z)
unsigned_word (pos n) h = h
unsigned_word (negsuc n) h = omega arith

signed_mag : (a : ℕ) → a < 2 ^ 32 → mag (signed a) < 2 ^ 31
signed_mag a h = let fits : SFits w32 (to_z w32 a) = search (arith, ints) in fits.sfits

pub test_word : (b : Bool) → IsWord (test b)
test_word true = omega arith
test_word false = omega arith

pub plus_word : (a : ℕ) (z : ℤ) → IsWord (plus a z)
plus_word a z = omega arith

-- ---- shifts

shifted_word : (a n : ℕ) → a < 2 ^ 32 → IsWord (unsigned (int_shr (signed a) n))
shifted_word a n h =
    unsigned_word (int_shr (signed a) n) (omega (arith, mag_shr (signed a) (2 ^ n), signed_mag a h))

-- ---- products

upper_mag : (z : ℤ) → mag z < 2 ^ 63 → mag (int_shr z 32) < 2 ^ 32
upper_mag (pos n) h = omega arith
upper_mag (negsuc n) h = omega arith

signed_abs : (a : ℕ) → a < 2 ^ 32 → unsigned_abs (signed a) ≤ 2 ^ 31
signed_abs a h = omega (arith, ints)

upper_word : (x y : ℤ) (m n : ℕ) → unsigned_abs x ≤ m → unsigned_abs y ≤ n → m * n < 2 ^ 63
    → IsWord (unsigned (int_shr (x *ℤ y) 32))
upper_word x y m n h k less =
    let fits : SFits w64 (x *ℤ y) = fits_signed_mul w64 x y m n h k less in
    unsigned_word (int_shr (x *ℤ y) 32) (upper_mag (x *ℤ y) fits.sfits)

upper_unsigned : (a b : ℕ) → a < 2 ^ 32 → b < 2 ^ 32 → a * b / 2 ^ 32 < 2 ^ 32
upper_unsigned a b h k = omega (arith, mul-lt a b (2 ^ 32) (2 ^ 32) h k)

-- ---- quotients

minus_mag : (n : ℕ) → mag (neg_ℤ (pos n)) ≤ n
minus_mag zero = omega arith
minus_mag (suc n) = omega arith

quotient_mag : (x y : ℤ) → mag (quot_z x y) ≤ suc (mag x)
quotient_mag (pos a) (pos b) = omega (arith, div-le_self a b)
quotient_mag (pos a) (negsuc b) = omega (arith, minus_mag (a / suc b), div-le_self a (suc b))
quotient_mag (negsuc a) (pos b) = omega (arith, minus_mag (suc a / b), div-le_self (suc a) b)
quotient_mag (negsuc a) (negsuc b) = omega (arith, div-le_self (suc a) (suc b))

quotient_word : (a b : ℕ) → a < 2 ^ 32 → IsWord (quotient a b)
quotient_word a b h =
    cond_both (b == 0) 0xFFFFFFFF (unsigned (int_div (signed a) (signed b))) IsWord
    (λ e. omega arith)
    (λ e. unsigned_word (int_div (signed a) (signed b))
    (omega (arith, quotient_mag (signed a) (signed b), signed_mag a h)))

remainder_word : (a b : ℕ) → a < 2 ^ 32 → IsWord (remainder a b)
remainder_word a b h =
    cond_both (b == 0) a (unsigned (int_rem (signed a) (signed b))) IsWord (λ e. h)
    (λ e. unsigned_word (int_rem (signed a) (signed b))
    (omega (arith, mag_rem (signed a) (signed b), signed_mag a h)))

-- ---- registers with registers

pub register_word : (op : RegOp) (a b : ℕ) → a < 2 ^ 32 → b < 2 ^ 32
    → IsWord (register_result op a b)
register_word Add a b h k = omega arith
register_word Sub a b h k = omega arith
register_word Sll a b h k = omega arith
register_word Slt a b h k = test_word (int_lt (signed a) (signed b))
register_word Sltu a b h k = test_word (nat_lt a b)
register_word Xor a b h k = xor_lt 32 a b h k
register_word Srl a b h k = omega (arith, div-le_self a (2 ^ (b % 32)))
register_word Sra a b h k = shifted_word a (b % 32) h
register_word Or a b h k = or_lt 32 a b h k
register_word And a b h k = and_lt 32 a b h k
register_word Mul a b h k = omega arith
register_word Mulh a b h k =
    upper_word (signed a) (signed b) (2 ^ 31) (2 ^ 31) (signed_abs a h) (signed_abs b k) (lit< tt)
register_word Mulhsu a b h k =
    upper_word (signed a) (pos b) (2 ^ 31) (2 ^ 32 - 1) (signed_abs a h) (omega arith) (lit< tt)
register_word Mulhu a b h k = upper_unsigned a b h k
register_word Div a b h k = quotient_word a b h
register_word Divu a b h k =
    cond_both (b == 0) 0xFFFFFFFF (a / b) IsWord (λ e. omega arith)
    (λ e. omega (arith, div-le_self a b))
register_word Rem a b h k = remainder_word a b h
register_word Remu a b h k =
    cond_both (b == 0) a (a % b) IsWord (λ e. h) (λ e. omega (arith, mod-le a b))

-- ---- registers with immediates

immediate_bits : (z : ℤ) → IsImmediate z → IsWord (unsigned z)
immediate_bits (pos n) h = omega (arith, ints, h.1)
immediate_bits (negsuc n) h = omega arith

pub immediate_word : (op : ImmOp) (a : ℕ) (z : ℤ) → a < 2 ^ 32 → IsImmediate z
    → IsWord (immediate_result op a z)
immediate_word Addi a z h is = plus_word a z
immediate_word Slti a z h is = test_word (int_lt (signed a) z)
immediate_word Sltiu a z h is = test_word (nat_lt a (unsigned z))
immediate_word Xori a z h is = xor_lt 32 a (unsigned z) h (immediate_bits z is)
immediate_word Ori a z h is = or_lt 32 a (unsigned z) h (immediate_bits z is)
immediate_word Andi a z h is = and_lt 32 a (unsigned z) h (immediate_bits z is)

pub shift_word : (op : ShiftOp) (a n : ℕ) → a < 2 ^ 32 → IsWord (shift_result op a n)
shift_word Slli a n h = omega arith
shift_word Srli a n h = omega (arith, div-le_self a (2 ^ n))
shift_word Srai a n h = shifted_word a n h

-- ---- loads

byte_extended : (n : ℕ) → n < 2 ^ 8 → IsWord (unsigned (cast_signed w8 n))
byte_extended n h =
    let fits : SFits w8 (to_z w8 n) = search (arith, ints) in
    unsigned_word (to_z w8 n) (omega (arith, fits.sfits))

half_extended : (n : ℕ) → n < 2 ^ 16 → IsWord (unsigned (cast_signed w16 n))
half_extended n h =
    let fits : SFits w16 (to_z w16 n) = search (arith, ints) in
    unsigned_word (to_z w16 n) (omega (arith, fits.sfits))

pub load_word : (op : LoadOp) (n : ℕ) → n < 2 ^ 32 → IsWord (load_result op n)
load_word Lb n h = byte_extended (n % 2 ^ 8) (omega arith)
load_word Lh n h = half_extended (n % 2 ^ 16) (omega arith)
load_word Lw n h = h
load_word Lbu n h = h
load_word Lhu n h = h
