-- The pages of a run stand together, so that all of them are found from the first one.
use Rattle.std.proofs.Common.{◌≡◌, ℕ, zero, suc, ◌+◌, ◌-◌, ◌<◌, ◌≤◌, Bool, true, false, List, []}
use Rattle.std.proofs.Common.{◌∷◌, ◌++◌, length, get_or, map, take, drop, inl, inr, refl, sym, ap}
use Rattle.std.proofs.Common.{ap₂, ◌∙◌, arith}
use Rattle.std.specs.Prelude.{nat_le, nat_lt, ◌&&◌, not, filter}
use Rattle.std.specs.List.{list_any, remove_range, slice_range}
use Rattle.std.proofs.lemmas.Bool.{cases_eq, cases_lt}
use Rattle.std.proofs.lemmas.Bool.Decides.{nat_tests}
use Rattle.std.proofs.lemmas.List.Folds.{list_any_at}
use Rattle.dos_world.specs.declared.Entry.{Entry}
use Rattle.dos_world.specs.MemoryCalls.{share_if}
use Rattle.space_map.specs.Mapping.{no_entry, page_of_entry, in_run, shared_in_run, with_shared_run}
use Rattle.space_map.specs.Mapping.{without_run, IsAt, IsFirstFrom, IsGapFor, IsRun}
use Rattle.space_map.proofs.Places.{Rises}

-- ---- a list of which one part passes a test

-- the elements from a up to b pass, and no other
record Parted {X : Type 0} (p : X → Bool) (xs : List X) (d : X) (a b : ℕ) : Type 0 where
  rises : a ≤ b
  within : b ≤ length xs
  before : (i : ℕ) → i < a → p (get_or xs i d) ≡ false
  inside : (i : ℕ) → a ≤ i → i < b → p (get_or xs i d) ≡ true
  behind : (i : ℕ) → b ≤ i → i < length xs → p (get_or xs i d) ≡ false

abbrev Fail : {X : Type 0} → (X → Bool) → List X → X → Type 0
Fail p xs d = (i : ℕ) → i < length xs → p (get_or xs i d) ≡ false

fail-rest : {X : Type 0} (p : X → Bool) (x : X) (xs : List X) (d : X) → Fail p (x ∷ xs) d
    → Fail p xs d
fail-rest p x xs d h i l = h (suc i) (omega arith)

filter-none : {X : Type 0} (p : X → Bool) (xs : List X) (d : X) → Fail p xs d → filter p xs ≡ []
filter-none p [] d h = refl
filter-none p (x ∷ xs) d h = rw (h 0 (omega arith)) (filter-none p xs d (fail-rest p x xs d h))

any-none : {X : Type 0} (p : X → Bool) (xs : List X) (d : X) → Fail p xs d
    → list_any p xs ≡ false
any-none p [] d h = refl
any-none p (x ∷ xs) d h = rw (h 0 (omega arith)) (any-none p xs d (fail-rest p x xs d h))

filter-others : {X : Type 0} (p : X → Bool) (xs : List X) (d : X) → Fail p xs d
    → filter (λ x. not (p x)) xs ≡ xs
filter-others p [] d h = refl
filter-others p (x ∷ xs) d h = rw (h 0 (omega arith))
    (ap (λ ys. x ∷ ys) (filter-others p xs d (fail-rest p x xs d h)))

parted-rest : {X : Type 0} (p : X → Bool) (x : X) (xs : List X) (d : X) (a b : ℕ)
    → Parted p (x ∷ xs) d (suc a) (suc b) → Parted p xs d a b
parted-rest p x xs d a b h = record {
  rises = omega (arith, h.rises);
  within = omega (arith, h.within);
  before = λ i l. h.before (suc i) (omega arith);
  inside = λ i l m. h.inside (suc i) (omega arith) (omega arith);
  behind = λ i l m. h.behind (suc i) (omega arith) (omega arith);
}

parted-first : {X : Type 0} (p : X → Bool) (x : X) (xs : List X) (d : X) (b : ℕ)
    → Parted p (x ∷ xs) d 0 (suc b) → Parted p xs d 0 b
parted-first p x xs d b h = record {
  rises = omega arith;
  within = omega (arith, h.within);
  before = λ i l. absurd (omega arith);
  inside = λ i l m. h.inside (suc i) (omega arith) (omega arith);
  behind = λ i l m. h.behind (suc i) (omega arith) (omega arith);
}

-- what doesn't pass is what stands before and behind
filter-parted : {X : Type 0} (p : X → Bool) (xs : List X) (d : X) (a b : ℕ) → Parted p xs d a b
    → filter (λ x. not (p x)) xs ≡ remove_range xs a b
filter-parted p xs d zero zero h = filter-others p xs d (λ i l. h.behind i (omega arith) l)
filter-parted p [] d a b h = absurd (omega (arith, h.rises, h.within))
filter-parted p (x ∷ xs) d zero (suc b) h = rw (h.inside 0 (omega arith) (omega arith))
    (filter-parted p xs d 0 b (parted-first p x xs d b h))
filter-parted p (x ∷ xs) d (suc a) zero h = absurd (omega (arith, h.rises))
filter-parted p (x ∷ xs) d (suc a) (suc b) h = rw (h.before 0 (omega arith))
    (ap (λ ys. x ∷ ys) (filter-parted p xs d a b (parted-rest p x xs d a b h)))

-- a map that changes nothing but what passes
map-same : {X : Type 0} (p : X → Bool) (f : X → X) (xs : List X) (d : X)
    → ((x : X) → p x ≡ false → f x ≡ x) → Fail p xs d → map f xs ≡ xs
map-same p f [] d same h = refl
map-same p f (x ∷ xs) d same h = ap₂ (λ y ys. y ∷ ys) (same x (h 0 (omega arith)))
    (map-same p f xs d same (fail-rest p x xs d h))

map-parted : {X : Type 0} (p : X → Bool) (f : X → X) (xs : List X) (d : X) (a b : ℕ)
    → ((x : X) → p x ≡ false → f x ≡ x) → Parted p xs d a b
    → map f xs ≡ take a xs ++ map f (take (b - a) (drop a xs)) ++ drop b xs
map-parted p f xs d zero zero same h = map-same p f xs d same (λ i l. h.behind i (omega arith) l)
map-parted p f [] d a b same h = absurd (omega (arith, h.rises, h.within))
map-parted p f (x ∷ xs) d zero (suc b) same h =
    let all : suc b ≡ suc b - 0 = omega arith in
    let rest : b - 0 ≡ b = omega arith in
    ap (λ ys. f x ∷ ys) (map-parted p f xs d 0 b same (parted-first p x xs d b h)
    ∙ ap (λ n. map f (take n xs) ++ drop b xs) rest)
    ∙ ap (λ n. map f (take n (x ∷ xs)) ++ drop (suc b) (x ∷ xs)) all
map-parted p f (x ∷ xs) d (suc a) zero same h = absurd (omega (arith, h.rises))
map-parted p f (x ∷ xs) d (suc a) (suc b) same h =
    let less : suc b - suc a ≡ b - a = omega arith in
    rw less (ap₂ (λ y ys. y ∷ ys) (same x (h.before 0 (omega arith)))
    (map-parted p f xs d a b same (parted-rest p x xs d a b h)))

-- ---- the pages of a run

-- the tests of in_run
below-run : (page count : ℕ) (e : ℕ × Entry) → e.0 < page → in_run page count e ≡ false
below-run page count e h = let no : nat_le page e.0 ≡ false = grind (arith, nat_tests) in rw no refl

past-run : (page count : ℕ) (e : ℕ × Entry) → page + count ≤ e.0 → in_run page count e ≡ false
past-run page count e h =
    let late : nat_lt e.0 (page + count) ≡ false = grind (arith, nat_tests) in
    elim (nat_le page e.0) as (λ b. (b && nat_lt e.0 (page + count)) ≡ false)
    [ true ↦ late | false ↦ refl ]

pub out-of-run : (page count : ℕ) (e : ℕ × Entry) → page ≤ e.0 → in_run page count e ≡ false
    → page + count ≤ e.0
out-of-run page count e low out = elim (cases_lt e.0 (page + count)) [
  | inl early ↦ absurd (
      let first : nat_le page e.0 ≡ true = grind (arith, nat_tests) in
      let last : nat_lt e.0 (page + count) ≡ true = grind (arith, nat_tests) in
      let both : in_run page count e ≡ true = rw (first, last) refl in
      cc
      )
  | inr late ↦ late
]

parted : (es : List (ℕ × Entry)) (page count first end : ℕ) → Rises es → IsFirstFrom es page first
    → IsRun es page count first end → Parted (in_run page count) es (0, no_entry) first end
parted es page count first end sorted from run = record {
  rises = run.rises;
  within = run.within;
  before = λ i l. below-run page count (get_or es i (0, no_entry)) (from.lower i l);
  inside = run.inside;
  behind = λ i l m.
      let low : page + count ≤ page_of_entry es end =
      out-of-run page count (get_or es end (0, no_entry))
      (from.higher end run.rises (omega arith)) (run.ends (omega arith)) in
      past-run page count (get_or es i (0, no_entry)) (elim (cases_eq i end) [
        | inl same ↦ omega (arith, low, ap (page_of_entry es) same)
        | inr other ↦ omega (arith, low, sorted end i (omega arith) m)
      ]);
}

pub run-removed : (es : List (ℕ × Entry)) (page count first end : ℕ) → Rises es
    → IsFirstFrom es page first → IsRun es page count first end
    → remove_range es first end ≡ without_run page count es
run-removed es page count first end sorted from run =
    sym (filter-parted (in_run page count) es (0, no_entry) first end
    (parted es page count first end sorted from run))

pub run-shared : (es : List (ℕ × Entry)) (page count first end : ℕ) → Rises es
    → IsFirstFrom es page first → IsRun es page count first end
    → take first es ++ with_shared_run page count (slice_range es first end) ++ drop end es
    ≡ with_shared_run page count es
run-shared es page count first end sorted from run =
    sym (map-parted (in_run page count) (shared_in_run page count) es (0, no_entry) first end
    (λ e out. ap (λ b. (e.0, share_if b e.1)) out)
    (parted es page count first end sorted from run))

-- whether there is one is seen at the first place
pub any-first : (es : List (ℕ × Entry)) (page count first : ℕ) → Rises es
    → IsFirstFrom es page first → first < length es
    → in_run page count (get_or es first (0, no_entry)) ≡ list_any (in_run page count) es
any-first es page count first sorted from within =
    elim (in_run page count (get_or es first (0, no_entry))) as (λ b.
    in_run page count (get_or es first (0, no_entry)) ≡ b
    → b ≡ list_any (in_run page count) es) [
      | true ↦ λ here. sym (list_any_at (in_run page count) es first (0, no_entry) within here)
      | false ↦ λ out. sym (any-none (in_run page count) es (0, no_entry) (none out))
    ] refl
  where
    none : in_run page count (get_or es first (0, no_entry)) ≡ false
        → Fail (in_run page count) es (0, no_entry)
    none out i l =
        let low : page + count ≤ page_of_entry es first =
        out-of-run page count (get_or es first (0, no_entry))
        (from.higher first (omega arith) within) out in
        elim (cases_lt i first) [
          | inl early ↦ below-run page count (get_or es i (0, no_entry)) (from.lower i early)
          | inr late ↦ past-run page count (get_or es i (0, no_entry)) (elim (cases_eq i first) [
            | inl same ↦ omega (arith, low, ap (page_of_entry es) same)
            | inr other ↦ omega (arith, low, sorted first i (omega arith) l)
          ])
        ]

pub any-none_from : (es : List (ℕ × Entry)) (page count first : ℕ) → IsFirstFrom es page first
    → length es ≤ first → false ≡ list_any (in_run page count) es
any-none_from es page count first from past =
    sym (any-none (in_run page count) es (0, no_entry)
    (λ i l. below-run page count (get_or es i (0, no_entry)) (from.lower i (omega arith))))

-- ---- where a search ended

pub first-at : (es : List (ℕ × Entry)) (page place : ℕ) → Rises es → IsAt es page place
    → IsFirstFrom es page place
first-at es page place sorted at = record {
  within = omega (arith, at.within);
  lower = λ i l. omega (arith, sorted i place l at.within, at.is);
  higher = λ i l m. elim (cases_eq i place) [
    | inl same ↦ omega (arith, at.is, ap (page_of_entry es) same)
    | inr other ↦ omega (arith, sorted place i (omega arith) m, at.is)
  ];
}

pub first-gap : (es : List (ℕ × Entry)) (page place : ℕ) → IsGapFor es page place
    → IsFirstFrom es page place
first-gap es page place gap = record {
  within = gap.within;
  lower = gap.lower;
  higher = λ i l m. omega (arith, gap.higher i l m);
}
