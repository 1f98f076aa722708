-- A decimal number, digit by digit.
use Rattle.std.proofs.Common.{◌+◌, ◌-◌, ◌*◌, ◌^◌, ◌<◌, ◌≤◌, ℕ}
use Rattle.std.proofs.Common.{arith}
use Rattle.std.proofs.Math.Nat.{pow-le-pow_right}

-- one digit more
abbrev pub with_digit : ℕ → ℕ → ℕ
with_digit n c = 10 * n + (c - 48)

pub bound_fits : (v i : ℕ) → v + 23 ≤ 23 * 10 ^ i → i < 20 → v + 23 ≤ 2300000000000000000000
bound_fits v i h lt = omega
    (arith, pow-le-pow_right {n = 10} (omega arith) {i = i} {j = 20} (omega arith))
