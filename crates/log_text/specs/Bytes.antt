-- Bytes, and the digests that are made of them. SHA-256's digests have 32 bytes.
use Rattle.std.specs.Prelude.{◌≡◌, ◌<◌, ℕ, List, length, slice_index}
use Rattle.std.specs.List.{AllByRecursion}

-- Each of these numbers is a byte; behind the list's end reads 0.
abbrev pub IsBytes : List ℕ → Type 0
IsBytes bytes = (i : ℕ) → slice_index bytes i < 256

-- the 32 bytes of a SHA-256 digest (FIPS 180-4)
pub record FitsDigest (digest : List ℕ) : Type 0 where
  pub len : length digest ≡ 32
  pub bytes : IsBytes digest

-- each of these
abbrev pub AreDigests : List (List ℕ) → Type 0
AreDigests = AllByRecursion FitsDigest
