-- The fields of a word put together, and a word put together from its fields.
use Rattle.std.proofs.Common.{◌≡◌, ℕ, ◌+◌, ◌*◌, ◌/◌, ◌%◌, ◌^◌, ◌<◌, ℤ, pos, negsuc, arith, refl}
use Rattle.std.proofs.lemmas.Int.{ints}
use Rattle.std.proofs.lemmas.Bool.Decides.{nat_tests}
use Rattle.rv_isa.specs.Fields.{field, rd, rs1, rs2, sign_extended, bits_s, bits_b, bits_j, imm_u}
use Rattle.rv_isa.specs.Encoding.{twos, r_type, i_type, s_type, b_type, u_type, j_type}
use Rattle.rv_isa.specs.Valid.{IsImmediate, IsBranchOffset, IsJumpOffset}

-- ---- the format R, which the others but U and J are put together by

pub record Fields (w opcode funct3 funct7 d s1 s2 : ℕ) : Type 0 where
  pub below : w < 2 ^ 32
  pub opcode_is : field 6 0 w ≡ opcode
  pub rd_is : rd w ≡ d
  pub funct3_is : field 14 12 w ≡ funct3
  pub rs1_is : rs1 w ≡ s1
  pub rs2_is : rs2 w ≡ s2
  pub funct7_is : field 31 25 w ≡ funct7

pub r_fields : (opcode funct3 funct7 d s1 s2 : ℕ) → opcode < 128 → funct3 < 8 → funct7 < 128
    → d < 32 → s1 < 32 → s2 < 32
    → Fields (r_type opcode funct3 funct7 d s1 s2) opcode funct3 funct7 d s1 s2
r_fields opcode funct3 funct7 d s1 s2 a b c e f g = record {
  below = omega arith;
  opcode_is = omega arith;
  rd_is = omega arith;
  funct3_is = omega arith;
  rs1_is = omega arith;
  rs2_is = omega arith;
  funct7_is = omega arith;
}

-- ---- two's complement

pub twos-extended_12 : (n : ℕ) → n < 2 ^ 12 → twos 12 (sign_extended 12 n) ≡ n
twos-extended_12 n h = grind (arith, nat_tests)

pub twos-extended_13 : (n : ℕ) → n < 2 ^ 13 → twos 13 (sign_extended 13 n) ≡ n
twos-extended_13 n h = grind (arith, nat_tests)

pub twos-extended_21 : (n : ℕ) → n < 2 ^ 21 → twos 21 (sign_extended 21 n) ≡ n
twos-extended_21 n h = grind (arith, nat_tests)

pub immediate_range : (n : ℕ) → n < 2 ^ 12 → IsImmediate (sign_extended 12 n)
immediate_range n h = grind (arith, nat_tests, ints)

pub branch_range : (n : ℕ) → n < 2 ^ 13 → n % 2 ≡ 0 → IsBranchOffset (sign_extended 13 n)
branch_range n h e = grind (arith, nat_tests, ints)

pub jump_range : (n : ℕ) → n < 2 ^ 21 → n % 2 ≡ 0 → IsJumpOffset (sign_extended 21 n)
jump_range n h e = grind (arith, nat_tests, ints)

pub extended-twos_12 : (z : ℤ) → IsImmediate z → sign_extended 12 (twos 12 z) ≡ z
extended-twos_12 (pos n) h = grind (arith, nat_tests, ints)
extended-twos_12 (negsuc n) h = grind (arith, nat_tests, ints)

pub extended-twos_13 : (z : ℤ) → IsBranchOffset z → sign_extended 13 (twos 13 z) ≡ z
extended-twos_13 (pos n) h = grind (arith, nat_tests, ints)
extended-twos_13 (negsuc n) h = grind (arith, nat_tests, ints)

pub extended-twos_21 : (z : ℤ) → IsJumpOffset z → sign_extended 21 (twos 21 z) ≡ z
extended-twos_21 (pos n) h = grind (arith, nat_tests, ints)
extended-twos_21 (negsuc n) h = grind (arith, nat_tests, ints)

pub twos_below_12 : (z : ℤ) → IsImmediate z → twos 12 z < 2 ^ 12
twos_below_12 (pos n) h = omega (arith, ints)
twos_below_12 (negsuc n) h = omega (arith, ints)

pub twos_below_13 : (z : ℤ) → IsBranchOffset z → (twos 13 z < 2 ^ 13) × (twos 13 z % 2 ≡ 0)
twos_below_13 (pos n) h = (omega (arith, ints), h.2)
twos_below_13 (negsuc n) h = (omega (arith, ints), omega (arith, ints))

pub twos_below_21 : (z : ℤ) → IsJumpOffset z → (twos 21 z < 2 ^ 21) × (twos 21 z % 2 ≡ 0)
twos_below_21 (pos n) h = (omega (arith, ints), h.2)
twos_below_21 (negsuc n) h = (omega (arith, ints), omega (arith, ints))

-- ---- the immediates in their places

pub i_parts : (w opcode funct3 : ℕ) → w < 2 ^ 32 → field 6 0 w ≡ opcode → field 14 12 w ≡ funct3
    → i_type opcode funct3 (rd w) (rs1 w) (field 31 20 w) ≡ w
i_parts w opcode funct3 h o f = omega arith

pub r_parts : (w opcode funct3 funct7 : ℕ) → w < 2 ^ 32 → field 6 0 w ≡ opcode
    → field 14 12 w ≡ funct3 → field 31 25 w ≡ funct7
    → r_type opcode funct3 funct7 (rd w) (rs1 w) (rs2 w) ≡ w
r_parts w opcode funct3 funct7 h o f g = omega arith

pub s_parts : (w opcode funct3 : ℕ) → w < 2 ^ 32 → field 6 0 w ≡ opcode → field 14 12 w ≡ funct3
    → s_type opcode funct3 (rs1 w) (rs2 w) (bits_s w) ≡ w
s_parts w opcode funct3 h o f =
    let a : field 11 5 (bits_s w) ≡ field 31 25 w = omega arith in
    let b : field 4 0 (bits_s w) ≡ field 11 7 w = omega arith in
    rw (a, b) (r_parts w opcode funct3 (field 31 25 w) h o f refl)

record BParts (a b c d n : ℕ) : Type 0 where
  top : field 12 12 n ≡ a
  next : field 11 11 n ≡ b
  high : field 10 5 n ≡ c
  low : field 4 1 n ≡ d

b_split : (a b c d : ℕ) → a < 2 → b < 2 → c < 64 → d < 16
    → BParts a b c d (a * 2 ^ 12 + b * 2 ^ 11 + c * 2 ^ 5 + d * 2)
b_split a b c d e f g h =
    record { top = omega arith; next = omega arith; high = omega arith; low = omega arith }

pub b_parts : (w opcode funct3 : ℕ) → w < 2 ^ 32 → field 6 0 w ≡ opcode → field 14 12 w ≡ funct3
    → b_type opcode funct3 (rs1 w) (rs2 w) (bits_b w) ≡ w
b_parts w opcode funct3 h o f =
    let p = b_split (field 31 31 w) (field 7 7 w) (field 30 25 w) (field 11 8 w) (omega arith)
    (omega arith) (omega arith) (omega arith) in
    let a : field 31 31 w * 2 ^ 6 + field 30 25 w ≡ field 31 25 w = omega arith in
    let b : field 11 8 w * 2 + field 7 7 w ≡ field 11 7 w = omega arith in
    rw (p.top, p.next, p.high, p.low, a, b) (r_parts w opcode funct3 (field 31 25 w) h o f refl)

pub u_parts : (w opcode : ℕ) → w < 2 ^ 32 → field 6 0 w ≡ opcode
    → u_type opcode (rd w) (imm_u w) ≡ w
u_parts w opcode h o = omega arith

record JParts (a b c d n : ℕ) : Type 0 where
  top : field 20 20 n ≡ a
  high : field 19 12 n ≡ b
  next : field 11 11 n ≡ c
  low : field 10 1 n ≡ d

j_split : (a b c d : ℕ) → a < 2 → b < 256 → c < 2 → d < 1024
    → JParts a b c d (a * 2 ^ 20 + b * 2 ^ 12 + c * 2 ^ 11 + d * 2)
j_split a b c d e f g h =
    record { top = omega arith; high = omega arith; next = omega arith; low = omega arith }

pub j_parts : (w opcode : ℕ) → w < 2 ^ 32 → field 6 0 w ≡ opcode
    → j_type opcode (rd w) (bits_j w) ≡ w
j_parts w opcode h o =
    let p = j_split (field 31 31 w) (field 19 12 w) (field 20 20 w) (field 30 21 w) (omega arith)
    (omega arith) (omega arith) (omega arith) in
    rw (p.top, p.next, p.high, p.low) (omega arith)

pub i_fields : (opcode funct3 d s1 n : ℕ) → opcode < 128 → funct3 < 8 → d < 32 → s1 < 32
    → n < 2 ^ 12
    → Fields (i_type opcode funct3 d s1 n) opcode funct3 (n / 2 ^ 5) d s1 (n % 2 ^ 5)
i_fields opcode funct3 d s1 n a b c e f = record {
  below = omega arith;
  opcode_is = omega arith;
  rd_is = omega arith;
  funct3_is = omega arith;
  rs1_is = omega arith;
  rs2_is = omega arith;
  funct7_is = omega arith;
}
