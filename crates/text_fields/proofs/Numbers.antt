-- A number in the first bytes of some, as byteorder reads it and as the text's definition does.
use Rattle.std.proofs.Common.{◌≡◌, List, ℕ, arith}
use Rattle.std.specs.Int.{w16, w32, w64, from_le_bytes}
use Rattle.byteorder.specs.Endian.{little_number}

pub two_bytes : (bytes : List ℕ) → little_number 2 bytes ≡ from_le_bytes w16 bytes
two_bytes bytes = omega arith

pub four_bytes : (bytes : List ℕ) → little_number 4 bytes ≡ from_le_bytes w32 bytes
four_bytes bytes = omega arith

pub eight_bytes : (bytes : List ℕ) → little_number 8 bytes ≡ from_le_bytes w64 bytes
eight_bytes bytes = omega arith
