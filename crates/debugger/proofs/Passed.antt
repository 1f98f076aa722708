-- Lists that are gone over, by their places, and tests that are joined.
use Rattle.std.proofs.Common.{◌≡◌, ℕ, zero, suc, ◌+◌, ◌<◌, ◌≤◌, List, [], ◌∷◌, ◌++◌, length, drop}
use Rattle.std.proofs.Common.{Bool, true, false, cond, Some, refl, sym, ap, ◌∙◌, arith}
use Rattle.std.proofs.Common.{append_assoc, append-nil, filter}
use Rattle.std.specs.Prelude.{slice_get, ◌&&◌, ◌||◌}
use Rattle.std.specs.List.{list_all}

pub or_second : (a b : Bool) → b ≡ true → (a || b) ≡ true
or_second true b is = refl
or_second false b is = is

-- ---- a list by its places

pub drop_at : {X : Type 0} (xs : List X) (i : ℕ) (x : X) → slice_get xs i ≡ Some x
    → drop i xs ≡ x ∷ drop (i + 1) xs
drop_at [] i x is = cc
drop_at (y ∷ ys) zero x is = let same : y ≡ x = cc in ap (λ z. z ∷ ys) same
drop_at (y ∷ ys) (suc i) x is =
    let next : suc (i + 1) ≡ suc i + 1 = omega arith in
    drop_at ys i x is ∙ ap (λ n. x ∷ drop n (y ∷ ys)) next

pub none_from : {X : Type 0} (xs : List X) (i : ℕ) → length xs ≤ i → drop i xs ≡ []
none_from [] zero long = refl
none_from [] (suc i) long = refl
none_from (x ∷ xs) zero long = absurd (omega (arith, long))
none_from (x ∷ xs) (suc i) long = none_from xs i (omega (arith, long))

module _ {X : Type 0} (f : X → Bool) (xs : List X) (i : ℕ) where
  pub all_not : (x : X) → slice_get xs i ≡ Some x → f x ≡ false
      → list_all f (drop i xs) ≡ false
  all_not x is fails =
      ap (list_all f) (drop_at xs i x is) ∙ ap (λ b. b && list_all f (drop (i + 1) xs)) fails

  pub all_on : (x : X) → slice_get xs i ≡ Some x → f x ≡ true
      → list_all f (drop i xs) ≡ list_all f (drop (i + 1) xs)
  all_on x is holds =
      ap (list_all f) (drop_at xs i x is) ∙ ap (λ b. b && list_all f (drop (i + 1) xs)) holds

  pub all_end : length xs ≤ i → list_all f (drop i xs) ≡ true
  all_end long = ap (list_all f) (none_from xs i long)

  pub kept_split : (x : X) → slice_get xs i ≡ Some x
      → filter f (drop i xs) ≡ filter f (x ∷ []) ++ filter f (drop (i + 1) xs)
  kept_split x is = ap (filter f) (drop_at xs i x is) ∙ by (f x)
    where
      by : (b : Bool) → cond b (x ∷ filter f (drop (i + 1) xs)) (filter f (drop (i + 1) xs))
          ≡ cond b (x ∷ []) [] ++ filter f (drop (i + 1) xs)
      by true = refl
      by false = refl

  pub kept_end : length xs ≤ i → filter f (drop i xs) ≡ []
  kept_end long = ap (filter f) (none_from xs i long)

-- ---- what is put one after another

module _ {A : Type 0} (have whole : List A) where
  -- nothing is left
  pub all_put : (rest : List A) → have ++ rest ≡ whole → rest ≡ [] → have ≡ whole
  all_put rest before none =
      sym (append-nil have) ∙ ap (λ (l : List A). have ++ l) (sym none) ∙ before

  -- some more were put
  pub some_put : (part more rest next : List A) → have ++ rest ≡ whole → rest ≡ part ++ next
      → more ≡ have ++ part → more ++ next ≡ whole
  some_put part more rest next before first put =
      ap (λ (l : List A). l ++ next) put ∙ append_assoc have part next
      ∙ ap (λ (l : List A). have ++ l) (sym first) ∙ before
