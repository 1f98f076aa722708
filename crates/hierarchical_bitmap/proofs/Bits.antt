-- One bit of a level set or cleared, and the lowest one.
use Rattle.std.proofs.Common.{◌≡◌, ◌≢◌, ℕ, zero, suc, ◌+◌, ◌-◌, ◌/◌, ◌%◌, ◌<◌, Bool, true, false}
use Rattle.std.proofs.Common.{cond, inl, inr, List, ◌∷◌, ◌++◌, length, get_or, set, map, replicate}
use Rattle.std.proofs.Common.{Some, None, refl, sym, ap, ap₂, ◌∙◌, arith, w64}
use Rattle.std.specs.Prelude.{bit_and, bit_or, position, nat_lt, ◌==◌}
use Rattle.std.specs.Int.{bit_at, bit_not}
use Rattle.std.specs.List.{range_with_len}
use Rattle.std.proofs.lemmas.List.{length-set, get_or-set_same, get_or-set_other}
use Rattle.std.proofs.lemmas.List.FromFn.{length-map-range_with_len}
use Rattle.std.proofs.lemmas.List.Sums.{position_or_len_is}
use Rattle.std.proofs.lemmas.Nat.Bits.{bit_at-zero, bit_at_set_same, bit_at_set_other}
use Rattle.std.proofs.lemmas.Nat.Bits.{bit_at_clear_same, bit_at_clear_other}
use Rattle.std.proofs.lemmas.Bool.{cases_eq}
use Rattle.std.proofs.lemmas.Bool.Decides.{nat_tests}
use Rattle.hierarchical_bitmap.specs.Levels.{bit, places_set, itself, mask, with_place}
use Rattle.hierarchical_bitmap.specs.Levels.{without_place}

-- ---- one bit of a word

-- what has a bit isn't 0
pub some-bit : (n i : ℕ) → bit_at n i ≡ 1 → 0 < n
some-bit n i h = elim (cases_eq n 0) [
  | inl e ↦ absurd (let none : bit_at n i ≡ 0 = ap (λ m. bit_at m i) e ∙ bit_at-zero i in
      omega arith)
  | inr other ↦ omega arith
]

-- ---- one bit of a level

pub with_bit-word : (words : List ℕ) (place : ℕ) → place / 64 < length words
    → get_or (with_place words place) (place / 64) 0
    ≡ bit_or (get_or words (place / 64) 0) (mask place)
with_bit-word words place h = get_or-set_same words (place / 64) _ 0 h

pub without_bit-word : (words : List ℕ) (place : ℕ) → place / 64 < length words
    → get_or (without_place words place) (place / 64) 0
    ≡ bit_and (get_or words (place / 64) 0) (bit_not w64 (mask place))
without_bit-word words place h = get_or-set_same words (place / 64) _ 0 h

pub with_bit-others : (words : List ℕ) (place k : ℕ) → k ≢ place / 64
    → get_or (with_place words place) k 0 ≡ get_or words k 0
with_bit-others words place k apart = get_or-set_other words (place / 64) k _ 0 apart

pub without_bit-others : (words : List ℕ) (place k : ℕ) → k ≢ place / 64
    → get_or (without_place words place) k 0 ≡ get_or words k 0
without_bit-others words place k apart = get_or-set_other words (place / 64) k _ 0 apart

pub length-with_bit : (words : List ℕ) (place : ℕ) → length (with_place words place) ≡ length words
length-with_bit words place = length-set words (place / 64) _

pub length-without_bit : (words : List ℕ) (place : ℕ)
    → length (without_place words place) ≡ length words
length-without_bit words place = length-set words (place / 64) _

pub with_bit-same : (words : List ℕ) (place : ℕ) → place / 64 < length words
    → bit (with_place words place) place ≡ 1
with_bit-same words place h = ap (λ w. bit_at w (place % 64)) (with_bit-word words place h)
    ∙ bit_at_set_same w64 (get_or words (place / 64) 0) (place % 64) (omega arith)

pub without_bit-same : (words : List ℕ) (place : ℕ) → place / 64 < length words
    → bit (without_place words place) place ≡ 0
without_bit-same words place h = ap (λ w. bit_at w (place % 64)) (without_bit-word words place h)
    ∙ bit_at_clear_same w64 (get_or words (place / 64) 0) (place % 64) (omega arith)

pub with_bit-other : (words : List ℕ) (place k : ℕ) → place / 64 < length words → k ≢ place
    → bit (with_place words place) k ≡ bit words k
with_bit-other words place k h apart = elim (cases_eq (k / 64) (place / 64)) [
  | inl e ↦
      let other : k % 64 ≢ place % 64 = λ same. apart (omega arith) in
      ap (λ i. bit_at (get_or (with_place words place) i 0) (k % 64)) e
      ∙ ap (λ w. bit_at w (k % 64)) (with_bit-word words place h)
      ∙ bit_at_set_other w64 (get_or words (place / 64) 0) (place % 64) (omega arith) (k % 64) other
      ∙ ap (λ i. bit_at (get_or words i 0) (k % 64)) (sym e)
  | inr other ↦ ap (λ w. bit_at w (k % 64)) (with_bit-others words place (k / 64) other)
]

pub without_bit-other : (words : List ℕ) (place k : ℕ) → place / 64 < length words → k ≢ place
    → bit (without_place words place) k ≡ bit words k
without_bit-other words place k h apart = elim (cases_eq (k / 64) (place / 64)) [
  | inl e ↦
      let other : k % 64 ≢ place % 64 = λ same. apart (omega arith) in
      ap (λ i. bit_at (get_or (without_place words place) i 0) (k % 64)) e
      ∙ ap (λ w. bit_at w (k % 64)) (without_bit-word words place h)
      ∙ bit_at_clear_other w64 (get_or words (place / 64) 0) (place % 64) (omega arith) (k % 64)
      (omega arith) other
      ∙ ap (λ i. bit_at (get_or words i 0) (k % 64)) (sym e)
  | inr other ↦ ap (λ w. bit_at w (k % 64)) (without_bit-others words place (k / 64) other)
]

-- ---- the list of places

-- two lists of truth values that differ at one place
changed : (f g : ℕ → Bool) (a n i place : ℕ) (v : Bool) → a + i ≡ place → g place ≡ v
    → ((k : ℕ) → k ≢ place → g k ≡ f k)
    → map g (range_with_len a n) ≡ set (map f (range_with_len a n)) i v
changed f g a zero i place v at is others = refl
changed f g a (suc n) zero place v at is others =
    let here : a ≡ place = omega arith in
    ap₂ (λ b bs. b ∷ bs) (ap g here ∙ is) (rest (a + 1) n (omega arith))
  where
    rest : (b m : ℕ) → place < b → map g (range_with_len b m) ≡ map f (range_with_len b m)
    rest b zero h = refl
    rest b (suc m) h = ap₂ (λ c cs. c ∷ cs) (others b (λ e. omega arith))
        (rest (b + 1) m (omega arith))
changed f g a (suc n) (suc i) place v at is others =
    ap₂ (λ b bs. b ∷ bs) (others a (λ e. omega arith))
    (changed f g (a + 1) n i place v (omega arith) is others)

pub bits-with_bit : (count : ℕ) (words : List ℕ) (place : ℕ) → place / 64 < length words
    → places_set count (with_place words place) ≡ set (places_set count words) place true
unfolding places_set
bits-with_bit count words place h =
    changed (λ k. bit words k == 1) (λ k. bit (with_place words place) k == 1) 0 count place place
    true (omega arith) (ap (λ b. b == 1) (with_bit-same words place h))
    (λ k apart. ap (λ b. b == 1) (with_bit-other words place k h apart))

pub bits-without_bit : (count : ℕ) (words : List ℕ) (place : ℕ) → place / 64 < length words
    → places_set count (without_place words place) ≡ set (places_set count words) place false
unfolding places_set
bits-without_bit count words place h =
    changed (λ k. bit words k == 1) (λ k. bit (without_place words place) k == 1) 0 count place
    place
    false (omega arith) (ap (λ b. b == 1) (without_bit-same words place h))
    (λ k apart. ap (λ b. b == 1) (without_bit-other words place k h apart))

pub length-bits : (count : ℕ) (words : List ℕ) → length (places_set count words) ≡ count
unfolding places_set
length-bits count words = length-map-range_with_len (λ k. bit words k == 1) 0 count

-- zeros have no bit
abbrev pub zeros : ℕ → List ℕ
zeros n = replicate n 0

pub length-zeros : (n : ℕ) → length (zeros n) ≡ n
length-zeros zero = refl
length-zeros (suc n) = ap suc (length-zeros n)

pub zeros-word : (n k : ℕ) → get_or (zeros n) k 0 ≡ 0
zeros-word zero k = refl
zeros-word (suc n) zero = refl
zeros-word (suc n) (suc k) = zeros-word n k

pub zeros-bit : (n k : ℕ) → bit (zeros n) k ≡ 0
zeros-bit n k = ap (λ w. bit_at w (k % 64)) (zeros-word n (k / 64)) ∙ bit_at-zero (k % 64)

pub bits-zeros : (count n : ℕ) → places_set count (zeros n) ≡ replicate count false
unfolding places_set
bits-zeros count n = none 0 count
  where
    none : (a m : ℕ) → map (λ k. bit (zeros n) k == 1) (range_with_len a m)
        ≡ replicate m false
    none a zero = refl
    none a (suc m) = ap₂ (λ b bs. b ∷ bs) (ap (λ b. b == 1) (zeros-bit n a)) (none (a + 1) m)

-- the places before one are set, and then it is
pub set-next : (n place : ℕ) → place < n
    → set (replicate place true ++ replicate (n - place) false) place true
    ≡ replicate (place + 1) true ++ replicate (n - (place + 1)) false
set-next n place low =
    let left : n - place ≡ suc (n - (place + 1)) = omega arith in
    let next : suc place ≡ place + 1 = omega arith in
    ap (λ m. set (replicate place true ++ replicate m false) place true) left
    ∙ one place (n - (place + 1))
    ∙ ap (λ m. replicate m true ++ replicate (n - (place + 1)) false) next
  where
    one : (p m : ℕ) → set (replicate p true ++ replicate (suc m) false) p true
        ≡ replicate (suc p) true ++ replicate m false
    one zero m = refl
    one (suc p) m = ap (λ bs. true ∷ bs) (one p m)

-- ---- the lowest

pub position-is : (xs : List Bool) (i : ℕ) → i < length xs → get_or xs i false ≡ true
    → ((k : ℕ) → k < i → get_or xs k false ≡ false) → position itself xs ≡ Some i
position-is xs i within here below =
    let at = position_or_len_is itself xs i false (omega arith) below (λ _. here) in
    let low : nat_lt i (length xs) ≡ true = grind (arith, nat_tests) in
    ap (λ k. cond (nat_lt k (length xs)) (Some k) None) at ∙ ap (λ b. cond b (Some i) None) low

pub position-is_none : (xs : List Bool) → ((k : ℕ) → get_or xs k false ≡ false)
    → position itself xs ≡ None
position-is_none xs none =
    let at = position_or_len_is itself xs (length xs) false (omega arith) (λ k _. none k)
    (λ low. absurd (omega arith)) in
    let past : nat_lt (length xs) (length xs) ≡ false = grind (arith, nat_tests) in
    ap (λ k. cond (nat_lt k (length xs)) (Some k) None) at
    ∙ ap (λ b. cond b (Some (length xs)) None) past
