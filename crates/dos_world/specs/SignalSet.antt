-- A set of signals as a number of 32 bits: bit k stands for signal k. This project's own rule.
use Rattle.std.specs.Prelude.{ℕ, ◌-◌, ◌/◌, ◌%◌, ◌^◌, Bool, ◌==◌, if◌then◌else◌, bit_and, bit_or}

-- whether signal k is in the set
abbrev pub has_bit : ℕ → ℕ → Bool
has_bit set k = set / 2 ^ k % 2 == 1

-- the set with signal k
abbrev pub with_bit : ℕ → ℕ → ℕ
with_bit set k = bit_or set (2 ^ k)

-- the set without signal k
abbrev pub without_bit : ℕ → ℕ → ℕ
without_bit set k = if has_bit set k then set - 2 ^ k else set

-- What a mask may hold: every bit but 0, which is no signal, and 9, which can't be masked.
abbrev pub allowed_mask : ℕ → ℕ
allowed_mask set = bit_and set 0xFFFFFDFE
