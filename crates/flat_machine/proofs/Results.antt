-- What operations compute, at values from the manual's tables and at the ends of their ranges;
-- worked out by hand.
use Rattle.std.specs.Prelude.{negsuc, true, false, ◌≡◌, refl}
use Rattle.rv_isa.specs.declared.RegOp.TheVariants.{Add, Sub, Sll, Slt, Sltu, Srl, Sra, Mul, Mulh}
use Rattle.rv_isa.specs.declared.RegOp.TheVariants.{Mulhsu, Mulhu, Div, Divu, Rem, Remu}
use Rattle.rv_isa.specs.declared.ImmOp.TheVariants.{Addi, Slti, Sltiu}
use Rattle.rv_isa.specs.declared.LoadOp.TheVariants.{Lb, Lh, Lbu, Lhu}
use Rattle.rv_isa.specs.declared.BranchOp.TheVariants.{Blt, Bltu}
use Rattle.flat_machine.specs.Arithmetic.{register_result, immediate_result, load_result, is_taken}
use Rattle.flat_machine.specs.Arithmetic.{lesser, greater, plus}

-- -2^31 by -1
division_overflows : register_result Div 0x80000000 0xFFFFFFFF ≡ 0x80000000
division_overflows = refl

its_remainder : register_result Rem 0x80000000 0xFFFFFFFF ≡ 0
its_remainder = refl

-- by zero
division_by_zero : register_result Div 5 0 ≡ 0xFFFFFFFF
division_by_zero = refl

remainder_by_zero : register_result Rem 5 0 ≡ 5
remainder_by_zero = refl

unsigned_by_zero : register_result Divu 5 0 ≡ 0xFFFFFFFF
unsigned_by_zero = refl

unsigned_remainder_by_zero : register_result Remu 5 0 ≡ 5
unsigned_remainder_by_zero = refl

-- -7 by 2 is -3, remainder -1
division_rounds_to_zero : register_result Div 0xFFFFFFF9 2 ≡ 0xFFFFFFFD
division_rounds_to_zero = refl

the_remainder_has_the_dividend's_sign : register_result Rem 0xFFFFFFF9 2 ≡ 0xFFFFFFFF
the_remainder_has_the_dividend's_sign = refl

-- -1 by -1 is 1; -1 by 2^32 - 1 is -(2^32 - 1); (2^32 - 1)^2 is 2^64 - 2^33 + 1
high_of_signed : register_result Mulh 0xFFFFFFFF 0xFFFFFFFF ≡ 0
high_of_signed = refl

high_of_mixed : register_result Mulhsu 0xFFFFFFFF 0xFFFFFFFF ≡ 0xFFFFFFFF
high_of_mixed = refl

high_of_unsigned : register_result Mulhu 0xFFFFFFFF 0xFFFFFFFF ≡ 0xFFFFFFFE
high_of_unsigned = refl

-- -2^31 by -2^31 is 2^62, and by 2^31 (unsigned) -2^62
high_of_least : register_result Mulh 0x80000000 0x80000000 ≡ 0x40000000
high_of_least = refl

high_of_least_mixed : register_result Mulhsu 0x80000000 0x80000000 ≡ 0xC0000000
high_of_least_mixed = refl

low_of_product : register_result Mul 0xFFFFFFFF 3 ≡ 0xFFFFFFFD
low_of_product = refl

a_sum_wraps : register_result Add 0xFFFFFFFF 2 ≡ 1
a_sum_wraps = refl

a_difference_wraps : register_result Sub 1 2 ≡ 0xFFFFFFFF
a_difference_wraps = refl

-- the low five bits of 33 are 1
a_shift_takes_five_bits : register_result Sll 0xC0000001 33 ≡ 0x80000002
a_shift_takes_five_bits = refl

an_arithmetic_shift : register_result Sra 0x80000000 4 ≡ 0xF8000000
an_arithmetic_shift = refl

a_logical_shift : register_result Srl 0x80000000 4 ≡ 0x08000000
a_logical_shift = refl

a_signed_comparison : register_result Slt 0xFFFFFFFF 0 ≡ 1
a_signed_comparison = refl

an_unsigned_comparison : register_result Sltu 0xFFFFFFFF 0 ≡ 0
an_unsigned_comparison = refl

-- an immediate of -1
an_immediate_is_signed : immediate_result Addi 5 (negsuc 0) ≡ 4
an_immediate_is_signed = refl

sltiu_compares_with_all_ones : immediate_result Sltiu 5 (negsuc 0) ≡ 1
sltiu_compares_with_all_ones = refl

slti_compares_with_minus_one : immediate_result Slti 5 (negsuc 0) ≡ 0
slti_compares_with_minus_one = refl

a_byte_is_signed : load_result Lb 0x80 ≡ 0xFFFFFF80
a_byte_is_signed = refl

a_byte_is_unsigned : load_result Lbu 0x80 ≡ 0x80
a_byte_is_unsigned = refl

a_half_is_signed : load_result Lh 0x8000 ≡ 0xFFFF8000
a_half_is_signed = refl

a_half_is_unsigned : load_result Lhu 0x8000 ≡ 0x8000
a_half_is_unsigned = refl

a_signed_branch : is_taken Blt 0xFFFFFFFF 0 ≡ true
a_signed_branch = refl

an_unsigned_branch : is_taken Bltu 0xFFFFFFFF 0 ≡ false
an_unsigned_branch = refl

the_lesser_is_signed : lesser 0xFFFFFFFF 1 ≡ 0xFFFFFFFF
the_lesser_is_signed = refl

the_greater_is_signed : greater 0xFFFFFFFF 1 ≡ 1
the_greater_is_signed = refl

-- a jump back from 0 wraps
an_address_wraps : plus 0 (negsuc 3) ≡ 0xFFFFFFFC
an_address_wraps = refl
