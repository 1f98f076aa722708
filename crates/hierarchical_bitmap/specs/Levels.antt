-- Levels of words of 64 bits, and what one says of the other.
use Rattle.std.specs.Prelude.{◌≡◌, ◌<◌, ◌≤◌, ℕ, ◌+◌, ◌*◌, ◌/◌, ◌%◌, ◌^◌, Bool, List, map, length}
use Rattle.std.specs.Prelude.{not, bit_and, bit_or, slice_set, slice_index, ◌==◌}
use Rattle.std.specs.List.{range_with_len}
use Rattle.std.specs.Int.{bit_at, bit_not, w64}

-- bit k of a level is bit k % 64 of word k / 64
abbrev pub bit : List ℕ → ℕ → ℕ
bit words place = bit_at (slice_index words (place / 64)) (place % 64)

abbrev pub is_set : ℕ → Bool
is_set word = not (word == 0)

-- the first places, each set or not
unfoldable pub places_set : ℕ → List ℕ → List Bool
places_set count words = map (λ place. bit words place == 1) (range_with_len 0 count)

abbrev pub mask : ℕ → ℕ
mask place = 1 * 2 ^ (place % 64) % 2 ^ 64

abbrev pub with_place : List ℕ → ℕ → List ℕ
with_place words place = slice_set words (place / 64)
    (bit_or (slice_index words (place / 64)) (mask place))

abbrev pub without_place : List ℕ → ℕ → List ℕ
without_place words place = slice_set words (place / 64)
    (bit_and (slice_index words (place / 64)) (bit_not w64 (mask place)))

abbrev pub AreZeroBelow : List ℕ → ℕ → Type 0
AreZeroBelow words index = (k : ℕ) → k < index → slice_index words k ≡ 0

-- the lowest place that is set
pub record IsLowest (words : List ℕ) (place : ℕ) : Type 0 where
  pub set : bit words place ≡ 1
  pub below : (k : ℕ) → k < place → bit words k ≡ 0

-- the upper level has a bit for each word of the lower one that isn't 0, and no other
pub record IsSummary (upper lower : List ℕ) : Type 0 where
  pub some : (k : ℕ) → 0 < slice_index lower k → bit upper k ≡ 1
  pub none : (k : ℕ) → slice_index lower k ≡ 0 → bit upper k ≡ 0

-- three levels over this many places: the places, a bit a word of them, and a bit a word of those
pub record AreLevels (count : ℕ) (places words groups : List ℕ) : Type 0 where
  pub few : count < 2 ^ 32
  pub places_are : length places ≡ count / 64 + 1
  pub words_are : length words ≡ length places / 64 + 1
  pub groups_are : length groups ≡ length words / 64 + 1
  pub no_more : (k : ℕ) → count ≤ k → bit places k ≡ 0
  pub of_places : IsSummary words places
  pub of_words : IsSummary groups words

abbrev pub itself : Bool → Bool
itself b = b
