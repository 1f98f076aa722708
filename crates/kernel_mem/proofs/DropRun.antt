-- The pages of a run stand together in a space: none before the first that isn't below it, and none
-- from the first behind it on.
use Rattle.std.proofs.Common.{◌≡◌, ℕ, zero, suc, ◌+◌, ◌-◌, ◌<◌, ◌≤◌, Bool, true, false, cond, List}
use Rattle.std.proofs.Common.{[], ◌∷◌, length, get_or, map, take, Some, inl, inr, refl, sym, ap}
use Rattle.std.proofs.Common.{◌∙◌, arith}
use Rattle.std.specs.Prelude.{◌&&◌, nat_le, nat_lt, filter, slice_get}
use Rattle.std.proofs.lemmas.Bool.{cases_lt}
use Rattle.std.proofs.lemmas.Bool.Decides.{nat_tests}
use Rattle.std.proofs.lemmas.List.{length-map, get_or-map}
use Rattle.std.proofs.lemmas.Option.{get_or_from_slice_get}
use Rattle.dos_world.specs.declared.Entry.{Entry}
use Rattle.space_map.specs.Mapping.{in_run, no_entry, page_of_entry, IsFirstFrom, IsRising}

-- ---- a list of which one part passes a test

-- none of the first n passes
filter-front_none : {X : Type 0} (p : X → Bool) (xs : List X) (n : ℕ) (d : X) → n ≤ length xs
    → ((i : ℕ) → i < n → p (get_or xs i d) ≡ false) → filter p (take n xs) ≡ []
filter-front_none p xs zero d h none = refl
filter-front_none p [] (suc n) d h none = refl
filter-front_none p (x ∷ xs) (suc n) d h none = rw (none 0 (omega arith))
    (filter-front_none p xs n d (omega arith) (λ i l. none (suc i) (omega arith)))

-- none from n on passes
filter-front_all : {X : Type 0} (p : X → Bool) (xs : List X) (n : ℕ) (d : X)
    → ((i : ℕ) → n ≤ i → i < length xs → p (get_or xs i d) ≡ false)
    → filter p (take n xs) ≡ filter p xs
filter-front_all p [] zero d none = refl
filter-front_all p [] (suc n) d none = refl
filter-front_all p (x ∷ xs) zero d none = sym (rw (none 0 (omega arith) (omega arith))
    (sym (filter-front_all p xs zero d (λ i l m. none (suc i) (omega arith) (omega arith)))))
filter-front_all p (x ∷ xs) (suc n) d none =
    ap (λ ys. cond (p x) (x ∷ ys) ys)
    (filter-front_all p xs n d (λ i l m. none (suc i) (omega arith) (omega arith)))

-- ---- the pages of a run

module _ (page count : ℕ) (e : ℕ × Entry) where
  below-run : e.0 < page → in_run page count e ≡ false
  below-run h = let no : nat_le page e.0 ≡ false = grind (arith, nat_tests) in rw no refl

  behind-run : page + count ≤ e.0 → in_run page count e ≡ false
  behind-run h =
      let late : nat_lt e.0 (page + count) ≡ false = grind (arith, nat_tests) in
      elim (nat_le page e.0) as (λ b. (b && nat_lt e.0 (page + count)) ≡ false)
      [ true ↦ late | false ↦ refl ]

  run-passed : page ≤ e.0 → in_run page count e ≡ false → page + count ≤ e.0
  run-passed low out = elim (cases_lt e.0 (page + count)) [
    | inl early ↦ absurd (
        let first : nat_le page e.0 ≡ true = grind (arith, nat_tests) in
        let last : nat_lt e.0 (page + count) ≡ true = grind (arith, nat_tests) in
        let both : in_run page count e ≡ true = rw (first, last) refl in
        cc
        )
    | inr late ↦ late
  ]

module _ (es : List (ℕ × Entry)) (rising : IsRising es) where
  pub next-page : (i : ℕ) → i + 1 < length es → page_of_entry es i < page_of_entry es (i + 1)
  next-page i h =
      let count : length (map (λ (e : ℕ × Entry). e.0) es) ≡ length es =
      length-map es (λ (e : ℕ × Entry). e.0) in
      let one : get_or (map (λ (e : ℕ × Entry). e.0) es) i 0 ≡ page_of_entry es i =
      get_or-map (λ (e : ℕ × Entry). e.0) es i (0, no_entry) 0 (omega arith) in
      let two : get_or (map (λ (e : ℕ × Entry). e.0) es) (i + 1) 0 ≡ page_of_entry es (i + 1) =
      get_or-map (λ (e : ℕ × Entry). e.0) es (i + 1) (0, no_entry) 0 (omega arith) in
      omega (arith, rising i (omega arith))

  -- the pages don't fall
  later-page : (i k : ℕ) → i + k < length es → page_of_entry es i ≤ page_of_entry es (i + k)
  later-page i zero h = let here : i + 0 ≡ i = omega arith in rw here (omega arith)
  later-page i (suc k) h =
      let here : i + suc k ≡ i + k + 1 = omega arith in
      rw here (omega (arith, later-page i k (omega arith), next-page (i + k) (omega arith)))

  module _ (page count first : ℕ) (from : IsFirstFrom es page first) where
    pub run-begins : filter (in_run page count) (take first es) ≡ []
    run-begins =
        filter-front_none (in_run page count) es first (0, no_entry) from.within
        (λ i l. below-run page count (get_or es i (0, no_entry)) (from.lower i l))

    pub run-ends : (place : ℕ) (e : ℕ × Entry) → first ≤ place → place < length es
        → slice_get es place ≡ Some e → in_run page count e ≡ false
        → filter (in_run page count) (take place es) ≡ filter (in_run page count) es
    run-ends place e after within here out =
        filter-front_all (in_run page count) es place (0, no_entry)
        (λ i l m. behind-run page count (get_or es i (0, no_entry)) (past i l m))
      where
        at : get_or es place (0, no_entry) ≡ e
        at = get_or_from_slice_get es place e (0, no_entry) here

        past : (i : ℕ) → place ≤ i → i < length es → page + count ≤ page_of_entry es i
        past i l m =
            let k : ℕ = i - place in
            let is : place + k ≡ i = omega arith in
            let low : page + count ≤ page_of_entry es place =
            run-passed page count (get_or es place (0, no_entry))
            (from.higher place after within) (ap (in_run page count) at ∙ out) in
            let most : page_of_entry es place ≤ page_of_entry es i =
            rw is at (later-page place k (omega arith)) in
            omega arith
