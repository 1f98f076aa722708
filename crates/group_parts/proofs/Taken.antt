-- One element more of a list that is gone through.
use Rattle.std.proofs.Common.{◌≡◌, ℕ, zero, suc, ◌+◌, List, [], ◌∷◌, ◌++◌, map, length, take}
use Rattle.std.proofs.Common.{refl, sym, ap, ◌∙◌, arith, slice_get, Option, Some, None}
use Rattle.std.specs.Prelude.{is_some}
use Rattle.std.proofs.lemmas.List.{map-append}
use Rattle.dos_world.specs.Numbered.{numbered, places_from}
use Rattle.dos_world.specs.World.{Thread}
use Rattle.proc_table.specs.Spread.{living_from}

taken_suc : {A : Type 0} (xs : List A) (i : ℕ) (x : A) → slice_get xs i ≡ Some x
    → take (suc i) xs ≡ take i xs ++ x ∷ []
taken_suc [] i x e = cc
taken_suc (y ∷ ys) zero x e = let same : y ≡ x = cc in ap (λ z. z ∷ []) same
taken_suc (y ∷ ys) (suc i) x e = ap (λ zs. y ∷ zs) (taken_suc ys i x e)

pub taken_more : {A : Type 0} (xs : List A) (i : ℕ) (x : A) → slice_get xs i ≡ Some x
    → take (i + 1) xs ≡ take i xs ++ x ∷ []
taken_more xs i x e = ap (λ n. take n xs) {x = i + 1} {y = suc i} (omega arith) ∙ taken_suc xs i x e

-- what was pushed is the next
pub pushed_more : {A : Type 0} (xs : List A) (i : ℕ) (x : A) {old new : List A}
    → new ≡ old ++ x ∷ [] → old ≡ take i xs → slice_get xs i ≡ Some x → new ≡ take (i + 1) xs
pushed_more xs i x pushed so_far here =
    pushed ∙ ap (λ ys. ys ++ x ∷ []) so_far ∙ sym (taken_more xs i x here)

-- what was pushed stands for the next
pub mapped_more : {A B : Type 0} (f : B → A) (xs : List A) (i : ℕ) (r : B) (old : List B)
    {new : List B}
    → new ≡ old ++ r ∷ [] → map f old ≡ take i xs → slice_get xs i ≡ Some (f r)
    → map f new ≡ take (i + 1) xs
mapped_more f xs i r old pushed so_far here =
    ap (λ rs. map f rs) pushed ∙ map-append f old (r ∷ [])
    ∙ ap (λ ys. ys ++ f r ∷ []) so_far ∙ sym (taken_more xs i (f r) here)

-- the element of a place, by its number
pub at_place : {A : Type 0} (xs : List A) (place : ℕ) {o : Option A}
    → numbered xs (place + 1) ≡ o → slice_get xs place ≡ o
at_place xs place e = ap (λ n. numbered xs n) {x = suc place} {y = place + 1} (omega arith) ∙ e

-- as many live as are counted
pub living_count : (n : ℕ) (threads : List (Option Thread))
    → length (living_from n threads) ≡ length (places_from n is_some threads)
living_count n [] = refl
living_count n (None ∷ threads) = living_count (suc n) threads
living_count n (Some thread ∷ threads) = ap (λ k. suc k) (living_count (suc n) threads)
