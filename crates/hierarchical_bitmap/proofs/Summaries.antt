-- What a level says of the one below it, as bits are set and cleared, and at the lowest one.
use Rattle.std.proofs.Common.{◌≡◌, ℕ, ◌+◌, ◌*◌, ◌/◌, ◌%◌, ◌^◌, ◌<◌, Bool, true, false, cond, inl}
use Rattle.std.proofs.Common.{inr, List, length, get_or, set, Some, None, refl, sym, ap, subst, ◌∙◌}
use Rattle.std.proofs.Common.{◌≤◌, arith}
use Rattle.std.proofs.Common.{w64}
use Rattle.std.specs.Prelude.{position, nat_lt, ◌==◌}
use Rattle.std.specs.Int.{bit_at, bit_not, trailing_zeros}
use Rattle.std.specs.List.{position_or_len}
use Rattle.std.proofs.lemmas.List.{get_or_past}
use Rattle.std.proofs.lemmas.List.FromFn.{get_or-map-range_with_len}
use Rattle.std.proofs.lemmas.List.Quantifiers.{position-Some}
use Rattle.std.proofs.lemmas.List.Sums.{fails_before_first}
use Rattle.std.proofs.lemmas.Nat.{and_le_l}
use Rattle.std.proofs.lemmas.Nat.Bits.{bit_at-zero, bit_at-trailing_zeros}
use Rattle.std.proofs.lemmas.Bool.{cases_eq, cases_lt}
use Rattle.std.proofs.lemmas.Bool.Decides.{nat_tests}
use Rattle.hierarchical_bitmap.specs.Levels.{bit, places_set, is_set, itself, mask, with_place}
use Rattle.hierarchical_bitmap.specs.Levels.{without_place}
use Rattle.hierarchical_bitmap.specs.Levels.{AreLevels, AreZeroBelow, IsLowest, IsSummary}
use Rattle.hierarchical_bitmap.proofs.Bits.{zeros, length-zeros, with_bit-others}
use Rattle.hierarchical_bitmap.proofs.Bits.{without_bit-others, length-with_bit, length-without_bit}
use Rattle.hierarchical_bitmap.proofs.Bits.{bits-with_bit, bits-without_bit}
use Rattle.hierarchical_bitmap.proofs.Bits.{some-bit, with_bit-same, with_bit-other}
use Rattle.hierarchical_bitmap.proofs.Bits.{without_bit-same, without_bit-other, without_bit-word}
use Rattle.hierarchical_bitmap.proofs.Bits.{zeros-bit, zeros-word, length-bits, position-is}
use Rattle.hierarchical_bitmap.proofs.Bits.{position-is_none}

-- ---- a bit set or cleared below

pub summary-with_bit : (upper lower : List ℕ) (place : ℕ) → place / 64 < length lower
    → place / 64 / 64 < length upper → IsSummary upper lower
    → IsSummary (with_place upper (place / 64)) (with_place lower place)
summary-with_bit upper lower place h u s = record {
  some = λ k some. elim (cases_eq k (place / 64)) [
    | inl e ↦ ap (λ i. bit (with_place upper (place / 64)) i) e ∙ with_bit-same upper (place / 64) u
    | inr other ↦ with_bit-other upper (place / 64) k u other
        ∙ s.some k (omega (arith, some, with_bit-others lower place k other))
  ];
  none = λ k none. elim (cases_eq k (place / 64)) [
    | inl e ↦ absurd (omega (
      arith,
      some-bit (get_or (with_place lower place) (place / 64) 0) (place % 64)
          (with_bit-same lower place h),
      ap (λ i. get_or (with_place lower place) i 0) e,
      none,
    ))
    | inr other ↦ with_bit-other upper (place / 64) k u other
        ∙ s.none k (sym (with_bit-others lower place k other) ∙ none)
  ];
}

-- the word isn't 0 yet
pub summary-left : (upper lower : List ℕ) (place : ℕ) → place / 64 < length lower
    → 0 < get_or (without_place lower place) (place / 64) 0 → IsSummary upper lower
    → IsSummary upper (without_place lower place)
summary-left upper lower place h left s = record {
  some = λ k some. elim (cases_eq k (place / 64)) [
    | inl e ↦ s.some k (omega (
      arith,
      and_le_l (get_or lower (place / 64) 0) (bit_not w64 (mask place)),
      without_bit-word lower place h,
      ap (λ i. get_or lower i 0) e,
      left,
    ))
    | inr other ↦ s.some k (omega (arith, some, without_bit-others lower place k other))
  ];
  none = λ k none. elim (cases_eq k (place / 64)) [
    | inl e ↦ absurd (omega (arith, left, none, ap (λ i. get_or (without_place lower place) i 0) e))
    | inr other ↦ s.none k (sym (without_bit-others lower place k other) ∙ none)
  ];
}

-- the word is 0 now
pub summary-without_bit : (upper lower : List ℕ) (place : ℕ) → place / 64 / 64 < length upper
    → get_or (without_place lower place) (place / 64) 0 ≡ 0 → IsSummary upper lower
    → IsSummary (without_place upper (place / 64)) (without_place lower place)
summary-without_bit upper lower place u zero s = record {
  some = λ k some. elim (cases_eq k (place / 64)) [
    | inl e ↦ absurd (omega (arith, zero, some, ap (λ i. get_or (without_place lower place) i 0) e))
    | inr other ↦ without_bit-other upper (place / 64) k u other
        ∙ s.some k (omega (arith, some, without_bit-others lower place k other))
  ];
  none = λ k none. elim (cases_eq k (place / 64)) [
    | inl e ↦ ap (λ i. bit (without_place upper (place / 64)) i) e
        ∙ without_bit-same upper (place / 64) u
    | inr other ↦ without_bit-other upper (place / 64) k u other
        ∙ s.none k (sym (without_bit-others lower place k other) ∙ none)
  ];
}

summary-zeros : (m n : ℕ) → IsSummary (zeros m) (zeros n)
summary-zeros m n = record {
  some = λ k some. absurd (omega (arith, some, zeros-word n k));
  none = λ k none. zeros-bit m k;
}

-- ---- all three levels

pub levels-zeros : (count m n p : ℕ) → count < 2 ^ 32 → m ≡ count / 64 + 1 → n ≡ m / 64 + 1
    → p ≡ n / 64 + 1 → AreLevels count (zeros m) (zeros n) (zeros p)
levels-zeros count m n p few are above top = record {
  few = few;
  places_are = omega (arith, are, length-zeros m);
  words_are = omega (arith, above, length-zeros m, length-zeros n);
  groups_are = omega (arith, top, length-zeros n, length-zeros p);
  no_more = λ k _. zeros-bit m k;
  of_places = summary-zeros n m;
  of_words = summary-zeros p n;
}

pub levels-are : {count : ℕ} {places words groups ps ws gs : List ℕ} → ps ≡ places → ws ≡ words
    → gs ≡ groups → AreLevels count places words groups → AreLevels count ps ws gs
levels-are {count} {places} {words} {groups} {ps} {ws} {gs} p w g l =
    subst (λ (xs : List ℕ). AreLevels count xs ws gs) (sym p)
    (subst (λ (xs : List ℕ). AreLevels count places xs gs) (sym w)
    (subst (λ (xs : List ℕ). AreLevels count places words xs) (sym g) l))

-- what the test of a word says
pub word-zero : {words new : List ℕ} (i : ℕ) {zero : Bool} → new ≡ words
    → zero ≡ (get_or new i 0 == 0) → zero ≡ true → get_or words i 0 ≡ 0
word-zero {words} {new} i {zero} is tested is_zero =
    let here : (get_or words i 0 == 0) ≡ true =
    ap (λ (xs : List ℕ). get_or xs i 0 == 0) (sym is) ∙ sym tested ∙ is_zero in
    grind (arith, nat_tests, here)

pub word-left : {words new : List ℕ} (i : ℕ) {zero : Bool} → new ≡ words
    → zero ≡ (get_or new i 0 == 0) → zero ≡ false → 0 < get_or words i 0
word-left {words} {new} i {zero} is tested isnt =
    let here : (get_or words i 0 == 0) ≡ false =
    ap (λ (xs : List ℕ). get_or xs i 0 == 0) (sym is) ∙ sym tested ∙ isnt in
    grind (arith, nat_tests, here)

module _ {count : ℕ} {places words groups : List ℕ} (l : AreLevels count places words groups) where
  -- levels as long as these
  alike : {ps ws gs : List ℕ} → length ps ≡ length places → length ws ≡ length words
      → length gs ≡ length groups → ((k : ℕ) → count ≤ k → bit ps k ≡ 0) → IsSummary ws ps
      → IsSummary gs ws → AreLevels count ps ws gs
  alike p w g past of_places of_words = record {
    few = l.few;
    places_are = p ∙ l.places_are;
    words_are = omega (arith, p, w, l.words_are);
    groups_are = omega (arith, w, g, l.groups_are);
    no_more = past;
    of_places = of_places;
    of_words = of_words;
  }

  -- a place of the list that is shown
  module _ {now : List Bool} (shows : places_set count places ≡ now) (place : ℕ)
      (low : place < length now) where
    within : place < count
    within = omega (arith, low, ap (λ (bs : List Bool). length bs) shows, length-bits count places)

    pub in_places : place / 64 < length places
    in_places = omega (arith, l.places_are, within)

    pub in_words : place / 64 / 64 < length words
    in_words = omega (arith, l.places_are, l.words_are, within)

    pub in_groups : place / 64 / 64 / 64 < length groups
    in_groups = omega (arith, l.places_are, l.words_are, l.groups_are, within)

    -- ---- it is set

    pub levels-set : AreLevels count (with_place places place) (with_place words (place / 64))
        (with_place groups (place / 64 / 64))
    levels-set = alike (length-with_bit places place) (length-with_bit words (place / 64))
        (length-with_bit groups (place / 64 / 64))
        (λ k past. with_bit-other places place k in_places (λ e. omega (arith, past, e, within))
        ∙ l.no_more k past)
        (summary-with_bit words places place in_places in_words l.of_places)
        (summary-with_bit groups words (place / 64) in_words in_groups l.of_words)

    pub shown-set : {ps : List ℕ} → ps ≡ with_place places place → places_set count ps
        ≡ set now place true
    shown-set e = ap (λ (xs : List ℕ). places_set count xs) e
        ∙ bits-with_bit count places place in_places
        ∙ ap (λ (bs : List Bool). set bs place true) shows

    -- ---- it is cleared

    none_more : (k : ℕ) → count ≤ k → bit (without_place places place) k ≡ 0
    none_more k past =
        without_bit-other places place k in_places (λ e. omega (arith, past, e, within))
        ∙ l.no_more k past

    -- the place's word isn't 0 yet
    pub levels-left : 0 < get_or (without_place places place) (place / 64) 0
        → AreLevels count (without_place places place) words groups
    levels-left left = alike (length-without_bit places place) refl refl none_more
        (summary-left words places place in_places left l.of_places) l.of_words

    -- it is 0, and the word above it isn't
    pub levels-word_left : get_or (without_place places place) (place / 64) 0 ≡ 0
        → 0 < get_or (without_place words (place / 64)) (place / 64 / 64) 0
        → AreLevels count (without_place places place) (without_place words (place / 64)) groups
    levels-word_left zero left = alike (length-without_bit places place)
        (length-without_bit words (place / 64)) refl none_more
        (summary-without_bit words places place in_words zero l.of_places)
        (summary-left groups words (place / 64) in_words left l.of_words)

    -- both are 0
    pub levels-cleared : get_or (without_place places place) (place / 64) 0 ≡ 0
        → get_or (without_place words (place / 64)) (place / 64 / 64) 0 ≡ 0
        → AreLevels count (without_place places place) (without_place words (place / 64))
        (without_place groups (place / 64 / 64))
    levels-cleared zero word_zero = alike (length-without_bit places place)
        (length-without_bit words (place / 64)) (length-without_bit groups (place / 64 / 64))
        none_more (summary-without_bit words places place in_words zero l.of_places)
        (summary-without_bit groups words (place / 64) in_groups word_zero l.of_words)

    pub shown-cleared : {ps : List ℕ} → ps ≡ without_place places place
        → places_set count ps ≡ set now place false
    shown-cleared e = ap (λ (xs : List ℕ). places_set count xs) e
        ∙ bits-without_bit count places place in_places
        ∙ ap (λ (bs : List Bool). set bs place false) shows

-- ---- the lowest

-- The lowest bit above leads to the first word that isn't 0, in the lists as the calls were given
-- them.
pub next-word : {upper lower seen below : List ℕ} (i : ℕ) → seen ≡ upper → below ≡ lower
    → IsSummary upper lower → length lower < 2 ^ 32 → IsLowest seen i
    → record { few : i < 2 ^ 32; some : 0 < get_or below i 0; below : AreZeroBelow below i }
next-word {upper} {lower} {seen} {below} i u l s few low =
    let some : 0 < get_or below i 0 = elim (cases_eq (get_or below i 0) 0) [
      | inl e ↦ absurd (omega (arith, bit-of i, s.none i (same i ∙ e), low.set))
      | inr other ↦ omega arith
    ] in
    record {
      few = elim (cases_lt i (length below)) [
        | inl within ↦ omega (arith, within, few, ap (λ (xs : List ℕ). length xs) l)
        | inr past ↦ absurd (omega (arith, some, get_or_past below i 0 past))
      ];
      some = some;
      below = λ k h. elim (cases_eq (get_or below k 0) 0) [
        | inl e ↦ e
        | inr other ↦ absurd (omega (
          arith,
          bit-of k,
          s.some k (omega (arith, same k)),
          low.below k h,
        ))
      ];
    }
  where
    same : (k : ℕ) → get_or lower k 0 ≡ get_or below k 0
    same k = ap (λ (xs : List ℕ). get_or xs k 0) (sym l)

    bit-of : (k : ℕ) → bit seen k ≡ bit upper k
    bit-of k = ap (λ (xs : List ℕ). bit xs k) u

-- the first word that isn't 0 has the lowest bit
pub lowest-bit : (words : List ℕ) (index place : ℕ) → 0 < get_or words index 0
    → get_or words index 0 < 2 ^ 64 → AreZeroBelow words index
    → place ≡ index * 64 + trailing_zeros w64 (get_or words index 0) → IsLowest words place
lowest-bit words index place some fits below is =
    let low = bit_at-trailing_zeros w64 (get_or words index 0) some fits in
    let word : place / 64 ≡ index = omega (arith, is, low.0) in
    let rest : place % 64 ≡ trailing_zeros w64 (get_or words index 0) = omega (arith, is, low.0) in
    record {
      set = ap (λ i. bit_at (get_or words i 0) (place % 64)) word
          ∙ ap (λ i. bit_at (get_or words index 0) i) rest ∙ low.1;
      below = λ k h. elim (cases_lt (k / 64) index) [
        | inl early ↦ ap (λ w. bit_at w (k % 64)) (below (k / 64) early) ∙ bit_at-zero (k % 64)
        | inr late ↦
            let same : k / 64 ≡ index = omega (arith, word, h, late) in
            ap (λ i. bit_at (get_or words i 0) (k % 64)) same
            ∙ low.2 (k % 64) (omega (arith, word, rest, same, h))
      ];
    }

-- the first word that isn't 0, in the list as it is given again
pub first-word : {words seen again : List ℕ} (index : ℕ) → seen ≡ words → again ≡ words
    → length words < 2 ^ 32 → position is_set seen ≡ Some index
    → record {
      few : index < 2 ^ 32;
      some : 0 < get_or again index 0;
      below : AreZeroBelow again index;
    }
first-word {words} {seen} {again} index e a few found =
    let at = position-Some is_set seen index 0 found in
    record {
      few = omega (arith, at.0, few, ap (λ (xs : List ℕ). length xs) e);
      some = let some = at.1 in grind (arith, nat_tests, some, same index);
      below = λ k h. let zero = at.2 k h in grind (arith, nat_tests, zero, same k);
    }
  where
    same : (k : ℕ) → get_or again k 0 ≡ get_or seen k 0
    same k = ap (λ (xs : List ℕ). get_or xs k 0) (a ∙ sym e)

pub first-none : (words : List ℕ) → position is_set words ≡ None → (k : ℕ) → get_or words k 0 ≡ 0
first-none words none k = elim (cases_lt (position_or_len is_set words) (length words)) [
  | inl low ↦ absurd (
      let yes : nat_lt (position_or_len is_set words) (length words) ≡ true =
      grind (arith, nat_tests, low) in
      let some : position is_set words ≡ Some (position_or_len is_set words) =
      ap (λ b. cond b (Some (position_or_len is_set words)) None) yes in
      cc
      )
  | inr past ↦ elim (cases_lt k (length words)) [
    | inl within ↦
        let zero = fails_before_first is_set words k 0 (omega arith) in
        grind (arith, nat_tests, zero)
    | inr beyond ↦ get_or_past words k 0 beyond
  ]
]

-- a level with no word has no place
pub none-below : (upper lower : List ℕ) → IsSummary upper lower → ((k : ℕ) → get_or upper k 0 ≡ 0)
    → (k : ℕ) → get_or lower k 0 ≡ 0
none-below upper lower s none k = elim (cases_eq (get_or lower k 0) 0) [
  | inl e ↦ e
  | inr other ↦ absurd (omega (
    arith,
    s.some k (omega arith),
    ap (λ w. bit_at w (k % 64)) (none (k / 64)),
    bit_at-zero (k % 64),
  ))
]

bit-at : (count k : ℕ) (words : List ℕ) → k < count
    → get_or (places_set count words) k false ≡ (bit words k == 1)
unfolding places_set
bit-at count k words h =
    get_or-map-range_with_len (λ i. bit words i == 1) 0 count k k false h (omega arith)

pub lowest-place : {count place : ℕ} {places words groups : List ℕ}
    → AreLevels count places words groups → IsLowest places place
    → (place < count) × (position itself (places_set count places) ≡ Some place)
lowest-place {count} {place} {places} {words} {groups} l low =
    let within : place < count = elim (cases_lt place count) [
      | inl under ↦ under
      | inr past ↦ absurd (omega (arith, l.no_more place past, low.set))
    ] in (
      within,
      position-is (places_set count places) place (omega (arith, within, length-bits count places))
          (bit-at count place places within ∙ ap (λ b. b == 1) low.set)
          (λ k h. bit-at count k places (omega (arith, within, h))
          ∙ ap (λ b. b == 1) (low.below k h)),
    )

pub lowest-none : {count : ℕ} {places words groups : List ℕ} → AreLevels count places words groups
    → ((k : ℕ) → get_or groups k 0 ≡ 0) → position itself (places_set count places) ≡ None
lowest-none {count} {places} {words} {groups} l none =
    let zero = none-below words places l.of_places (none-below groups words l.of_words none) in
    position-is_none (places_set count places) (λ k. elim (cases_lt k count) [
      | inl within ↦ bit-at count k places within
          ∙ ap (λ w. bit_at w (k % 64) == 1) (zero (k / 64))
          ∙ ap (λ b. b == 1) (bit_at-zero (k % 64))
      | inr past ↦ get_or_past (places_set count places) k false
          (omega (arith, past, length-bits count places))
    ])

-- ---- every number of a word, and every place, is below 2^32

pub lengths-few : {count : ℕ} {places words groups : List ℕ} → AreLevels count places words groups
    → (length places < 2 ^ 32) × (length words < 2 ^ 32) × (length groups < 2 ^ 32)
lengths-few l = (
  omega (arith, l.few, l.places_are),
  omega (arith, l.few, l.places_are, l.words_are),
  omega (arith, l.few, l.places_are, l.words_are, l.groups_are),
)

pub few-lowest : {count place : ℕ} {places words groups : List ℕ}
    → AreLevels count places words groups → IsLowest places place → place < 2 ^ 32
few-lowest l low =
    omega (arith, l.few, (lowest-place l low).0)
