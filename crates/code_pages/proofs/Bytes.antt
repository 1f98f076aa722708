-- Bytes that are the same, found so by their bits, and bytes that are written.
use Rattle.std.proofs.Common.{ℕ, zero, suc, ◌+◌, ◌-◌, ◌*◌, ◌≡◌, ◌<◌, ◌≤◌, ◌⊎◌, inl, inr, sym, refl}
use Rattle.std.proofs.Common.{arith, List, [], ◌∷◌, length, ap, ◌∙◌, take, drop, set, length-set}
use Rattle.std.proofs.Common.{subst}
use Rattle.std.specs.Prelude.{bit_or, bit_xor, slice_index}
use Rattle.std.specs.Int.Bits.{xor_add_and}
use Rattle.std.proofs.lemmas.Nat.{le_or_l, le_or_r, and_le_l, and_le_r}
use Rattle.std.proofs.lemmas.Bool.{cases_lt}
use Rattle.std.proofs.lemmas.List.{get_or-set_other, get_or-set_same, get_or-take, get_or-drop}
use Rattle.std.proofs.lemmas.List.{length-take, length-drop}
use Rattle.dos_world.specs.Bytes.{written}
use Rattle.code_pages.specs.Lines.{AreSameIn, IsWrittenIn, with_block}
use Rattle.code_pages.proofs.Lists.{same-lists}

or-none : (a b : ℕ) → bit_or a b ≡ 0 → (a ≡ 0) × (b ≡ 0)
or-none a b h =
    (omega (arith, h, le_or_l a b), omega (arith, h, le_or_r a b))

xor-none : (a b : ℕ) → bit_xor a b ≡ 0 → a ≡ b
xor-none a b h = omega (arith, h, xor_add_and a b, and_le_l a b, and_le_r a b)

-- one byte more of two lists, and what differed so far
pub same-more : (a b : List ℕ) (from at all : ℕ)
    → bit_or all (bit_xor (slice_index a at) (slice_index b at)) ≡ 0
    → (all ≡ 0 → AreSameIn from at a b) → AreSameIn from (at + 1) a b
same-more a b from at all none same i low high =
    let both = or-none all (bit_xor (slice_index a at) (slice_index b at)) none in
    by_place both.0 (xor-none (slice_index a at) (slice_index b at) both.1) (cases_lt i at)
  where
    by_place : all ≡ 0 → slice_index a at ≡ slice_index b at → (i < at) ⊎ (at ≤ i)
        → slice_index a i ≡ slice_index b i
    by_place z e (inl h) = same z i low h
    by_place z e (inr h) = let k : i ≡ at = omega (arith, h, high) in rw k e

-- ---- bytes that are written

-- where nothing differs
pub written-same : (from end : ℕ) (old bytes : List ℕ) → AreSameIn from end old bytes
    → IsWrittenIn from end old old bytes
written-same from end old bytes same = record { inside = same; outside = λ i out. refl }

pub written-none : (at : ℕ) (old bytes : List ℕ) → IsWrittenIn at at old old bytes
written-none at old bytes =
    written-same at at old bytes (λ i low high. absurd (omega (arith, low, high)))

-- a part, and the one behind it
pub written-then : (from mid end : ℕ) (a b c bytes : List ℕ) → from ≤ mid → mid ≤ end
    → IsWrittenIn from mid a b bytes → IsWrittenIn mid end b c bytes
    → IsWrittenIn from end a c bytes
written-then from mid end a b c bytes less more f g = record {
  inside = λ i low high. by_place i low high (cases_lt i mid);
  outside = λ i out. g.outside i (after i out) ∙ f.outside i (before i out);
}
  where
    by_place : (i : ℕ) → from ≤ i → i < end → (i < mid) ⊎ (mid ≤ i)
        → slice_index c i ≡ slice_index bytes i
    by_place i low high (inl h) = g.outside i (inl h) ∙ f.inside i low h
    by_place i low high (inr h) = g.inside i h high

    after : (i : ℕ) → (i < from) ⊎ (end ≤ i) → (i < mid) ⊎ (end ≤ i)
    after i (inl h) = inl (omega (arith, h, less))
    after i (inr h) = inr h

    before : (i : ℕ) → (i < from) ⊎ (end ≤ i) → (i < from) ⊎ (mid ≤ i)
    before i (inl h) = inl h
    before i (inr h) = inr (omega (arith, h, more))

-- the same at places by other words
pub written-at : (from end from' end' : ℕ) (a b bytes : List ℕ) → from ≡ from' → end ≡ end'
    → IsWrittenIn from end a b bytes → IsWrittenIn from' end' a b bytes
written-at from end from' end' a b bytes e f is =
    subst (λ n. IsWrittenIn n end' a b bytes) e (subst (λ n. IsWrittenIn from n a b bytes) f is)

-- ---- a block

length-written : (xs : List ℕ) (p : ℕ) (new : List ℕ) → length (written xs p new) ≡ length xs
length-written xs p [] = refl
length-written xs p (b ∷ new) = length-written (set xs p b) (suc p) new ∙ length-set xs p b

byte-beside : (xs : List ℕ) (p : ℕ) (new : List ℕ) (i : ℕ) → (i < p) ⊎ (p + length new ≤ i)
    → slice_index (written xs p new) i ≡ slice_index xs i
byte-beside xs p [] i out = refl
byte-beside xs p (b ∷ new) i (inl h) =
    byte-beside (set xs p b) (suc p) new i (inl (omega (arith, h)))
    ∙ get_or-set_other xs p i b 0 (λ e. omega (arith, h, e))
byte-beside xs p (b ∷ new) i (inr h) =
    byte-beside (set xs p b) (suc p) new i (inr (omega (arith, h)))
    ∙ get_or-set_other xs p i b 0 (λ e. omega (arith, h, e))

byte-written : (xs : List ℕ) (p : ℕ) (new : List ℕ) (i j : ℕ) → i ≡ p + j → j < length new
    → i < length xs → slice_index (written xs p new) i ≡ slice_index new j
byte-written xs p [] i j is h within = absurd (omega (arith, h))
byte-written xs p (b ∷ new) i zero is h within =
    byte-beside (set xs p b) (suc p) new i (inl (omega (arith, is)))
    ∙ ap (λ (k : ℕ). slice_index (set xs p b) k) first
    ∙ get_or-set_same xs p b 0 (omega (arith, first, within))
  where
    first : i ≡ p
    first = omega (arith, is)
byte-written xs p (b ∷ new) i (suc j) is h within =
    byte-written (set xs p b) (suc p) new i j (omega (arith, is)) (omega (arith, h))
    (omega (arith, within, length-set xs p b))

-- a byte of a page with a block, where it lies in the block or right behind it, and elsewhere
pub block-byte : (old : List ℕ) (block : ℕ) (bytes : List ℕ) (i : ℕ) → length old ≡ 4096
    → length bytes ≡ 4096 → 256 * block ≤ i → i < 256 * block + 258 → i < 4096
    → slice_index (with_block old block bytes) i ≡ slice_index bytes i
block-byte old block bytes i size full low high within =
    let cut : List ℕ = take 258 (drop (256 * block) bytes) in
    let j : ℕ = i - 256 * block in
    let is : i ≡ 256 * block + j = omega (arith, low) in
    byte-written old (256 * block) cut i j is
    (omega (
      arith,
      is,
      high,
      within,
      full,
      length-take 258 (drop (256 * block) bytes),
      length-drop (256 * block) bytes,
    ))
    (omega (arith, size, within))
    ∙ get_or-take 258 (drop (256 * block) bytes) j 0 (omega (arith, is, high))
    ∙ get_or-drop (256 * block) bytes j 0
    ∙ ap (λ (k : ℕ). slice_index bytes k) (sym is)

pub block-beside : (old : List ℕ) (block : ℕ) (bytes : List ℕ) (i : ℕ)
    → (i < 256 * block) ⊎ (256 * block + 258 ≤ i)
    → slice_index (with_block old block bytes) i ≡ slice_index old i
block-beside old block bytes i (inl h) =
    byte-beside old (256 * block) (take 258 (drop (256 * block) bytes)) i (inl h)
block-beside old block bytes i (inr h) =
    byte-beside old (256 * block) (take 258 (drop (256 * block) bytes)) i
    (inr (omega (arith, h, length-take 258 (drop (256 * block) bytes))))

-- all of the page behind the last block, or the halfword behind another
pub block-is : (old new bytes : List ℕ) (block end : ℕ) → length old ≡ 4096 → length new ≡ 4096
    → length bytes ≡ 4096 → end ≤ 256 * block + 258
    → (end ≡ 256 * block + 258) ⊎ (4096 ≤ end)
    → IsWrittenIn (256 * block) end old new bytes → new ≡ with_block old block bytes
block-is old new bytes block end size long full high reach is =
    same-lists new (with_block old block bytes)
    (omega (
      arith,
      size,
      long,
      length-written old (256 * block) (take 258 (drop
          (256 * block) bytes)),
    ))
    (λ i h. by_place i (omega (arith, h, long)) (cases_lt i (256 * block)) (cases_lt i end) reach)
  where
    by_place : (i : ℕ) → i < 4096 → (i < 256 * block) ⊎ (256 * block ≤ i) → (i < end) ⊎ (end ≤ i)
        → (end ≡ 256 * block + 258) ⊎ (4096 ≤ end)
        → slice_index new i ≡ slice_index (with_block old block bytes) i
    by_place i h (inl p) q r = is.outside i (inl p) ∙ sym (block-beside old block bytes i (inl p))
    by_place i h (inr p) (inl q) r =
        is.inside i p q ∙ sym (block-byte old block bytes i size full p (omega (arith, q, high)) h)
    by_place i h (inr p) (inr q) (inl r) =
        is.outside i (inr q) ∙ sym (block-beside old block bytes i (inr (omega (arith, q, r))))
    by_place i h (inr p) (inr q) (inr r) = absurd (omega (arith, h, q, r))
