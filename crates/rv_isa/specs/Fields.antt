-- The fields of an instruction word, and its five immediates: the RISC-V unprivileged manual,
-- RV32I, "Base Instruction Formats" and "Immediate Encoding Variants".
use Rattle.std.specs.Prelude.{ℕ, suc, ◌+◌, ◌-◌, ◌*◌, ◌/◌, ◌%◌, ◌^◌, Bool, ℤ, pos, negsuc, nat_lt}
use Rattle.std.specs.Prelude.{◌==◌, if◌then◌else◌}

-- bits high down to low, as the manual writes them, high:low
abbrev pub field : ℕ → ℕ → ℕ → ℕ
field high low word = word / 2 ^ low % 2 ^ (high + 1 - low)

abbrev pub rd : ℕ → ℕ
rd word = field 11 7 word

abbrev pub rs1 : ℕ → ℕ
rs1 word = field 19 15 word

abbrev pub rs2 : ℕ → ℕ
rs2 word = field 24 20 word

-- one bit, as a flag
abbrev pub flag : ℕ → ℕ → Bool
flag place word = field place place word == 1

-- a number of this many bits, sign-extended from its top bit
abbrev pub sign_extended : ℕ → ℕ → ℤ
sign_extended width n = if nat_lt n (2 ^ (width - 1)) then pos n else negsuc (2 ^ width - suc n)

-- ---- the immediates by format

abbrev pub imm_i : ℕ → ℤ
imm_i word = sign_extended 12 (field 31 20 word)

abbrev pub bits_s : ℕ → ℕ
bits_s word = field 31 25 word * 2 ^ 5 + field 11 7 word

abbrev pub imm_s : ℕ → ℤ
imm_s word = sign_extended 12 (bits_s word)

abbrev pub bits_b : ℕ → ℕ
bits_b word =
    field 31 31 word * 2 ^ 12 + field 7 7 word * 2 ^ 11
    + field 30 25 word * 2 ^ 5 + field 11 8 word * 2

abbrev pub imm_b : ℕ → ℤ
imm_b word = sign_extended 13 (bits_b word)

abbrev pub imm_u : ℕ → ℕ
imm_u word = field 31 12 word * 2 ^ 12

abbrev pub bits_j : ℕ → ℕ
bits_j word =
    field 31 31 word * 2 ^ 20 + field 19 12 word * 2 ^ 12
    + field 20 20 word * 2 ^ 11 + field 30 21 word * 2

abbrev pub imm_j : ℕ → ℤ
imm_j word = sign_extended 21 (bits_j word)
