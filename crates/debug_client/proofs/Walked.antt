-- Lists that are gone over, by their places.
use Rattle.std.proofs.Common.{◌≡◌, ℕ, zero, suc, ◌+◌, ◌<◌, ◌≤◌, List, [], ◌∷◌, ◌++◌, length, drop}
use Rattle.std.proofs.Common.{Bool, true, false, cond, Some, None, refl, sym, ap, ◌∙◌, arith}
use Rattle.std.proofs.Common.{append_assoc, append-nil, filter}
use Rattle.std.specs.Prelude.{slice_get, find, ◌&&◌, ◌||◌, ◌-◌}
use Rattle.std.specs.List.{list_any, list_all}
use Rattle.dos_world.specs.Numbered.{numbered, map_from, run_of}
use Rattle.debug_client.specs.Births.{rows_behind}
use Rattle.debug_client.proofs.Tests.{and_both}

-- ---- a list by its places

pub drop_at : {X : Type 0} (xs : List X) (i : ℕ) (x : X) → slice_get xs i ≡ Some x
    → drop i xs ≡ x ∷ drop (i + 1) xs
drop_at [] i x is = cc
drop_at (y ∷ ys) zero x is = let same : y ≡ x = cc in ap (λ z. z ∷ ys) same
drop_at (y ∷ ys) (suc i) x is =
    let next : suc (i + 1) ≡ suc i + 1 = omega arith in
    drop_at ys i x is ∙ ap (λ n. x ∷ drop n (y ∷ ys)) next

pub none_from : {X : Type 0} (xs : List X) (i : ℕ) → length xs ≤ i → drop i xs ≡ []
none_from [] zero long = refl
none_from [] (suc i) long = refl
none_from (x ∷ xs) zero long = absurd (omega (arith, long))
none_from (x ∷ xs) (suc i) long = none_from xs i (omega (arith, long))

pub at_place : {X : Type 0} (xs : List X) (i : ℕ) → i < length xs
    → (x : X) × (slice_get xs i ≡ Some x)
at_place [] i less = absurd (omega (arith, less))
at_place (x ∷ xs) zero less = (x, refl)
at_place (x ∷ xs) (suc i) less = at_place xs i (omega (arith, less))

-- ---- what is found from a place on

module _ {X : Type 0} (f : X → Bool) (xs : List X) (i : ℕ) where
  pub find_here : (x : X) → slice_get xs i ≡ Some x → f x ≡ true → find f (drop i xs) ≡ Some x
  find_here x is holds =
      ap (find f) (drop_at xs i x is)
      ∙ ap (λ b. cond b (Some x) (find f (drop (i + 1) xs))) holds

  pub find_on : (x : X) → slice_get xs i ≡ Some x → f x ≡ false
      → find f (drop i xs) ≡ find f (drop (i + 1) xs)
  find_on x is fails =
      ap (find f) (drop_at xs i x is)
      ∙ ap (λ b. cond b (Some x) (find f (drop (i + 1) xs))) fails

  pub find_end : length xs ≤ i → find f (drop i xs) ≡ None
  find_end long = ap (find f) (none_from xs i long)

  pub any_here : (x : X) → slice_get xs i ≡ Some x → f x ≡ true → list_any f (drop i xs) ≡ true
  any_here x is holds =
      ap (list_any f) (drop_at xs i x is) ∙ ap (λ b. b || list_any f (drop (i + 1) xs)) holds

  pub any_on : (x : X) → slice_get xs i ≡ Some x → f x ≡ false
      → list_any f (drop i xs) ≡ list_any f (drop (i + 1) xs)
  any_on x is fails =
      ap (list_any f) (drop_at xs i x is) ∙ ap (λ b. b || list_any f (drop (i + 1) xs)) fails

  pub any_end : length xs ≤ i → list_any f (drop i xs) ≡ false
  any_end long = ap (list_any f) (none_from xs i long)

  pub all_not : (x : X) → slice_get xs i ≡ Some x → f x ≡ false
      → list_all f (drop i xs) ≡ false
  all_not x is fails =
      ap (list_all f) (drop_at xs i x is) ∙ ap (λ b. b && list_all f (drop (i + 1) xs)) fails

  pub all_on : (x : X) → slice_get xs i ≡ Some x → f x ≡ true
      → list_all f (drop i xs) ≡ list_all f (drop (i + 1) xs)
  all_on x is holds =
      ap (list_all f) (drop_at xs i x is) ∙ ap (λ b. b && list_all f (drop (i + 1) xs)) holds

  pub all_end : length xs ≤ i → list_all f (drop i xs) ≡ true
  all_end long = ap (list_all f) (none_from xs i long)

  pub all_next : i < length xs → list_all f (drop i xs) ≡ true
      → list_all f (drop (i + 1) xs) ≡ true
  all_next less all =
      let here = at_place xs i less in
      (and_both (f here.0) (list_all f (drop (i + 1) xs))
      (sym (ap (list_all f) (drop_at xs i here.0 here.1)) ∙ all)).1

  -- ---- what is kept from a place on

  pub kept_here : (x : X) → slice_get xs i ≡ Some x → f x ≡ true
      → filter f (drop i xs) ≡ x ∷ filter f (drop (i + 1) xs)
  kept_here x is holds =
      ap (filter f) (drop_at xs i x is)
      ∙ ap (λ b. cond b (x ∷ filter f (drop (i + 1) xs)) (filter f (drop (i + 1) xs))) holds

  pub kept_on : (x : X) → slice_get xs i ≡ Some x → f x ≡ false
      → filter f (drop i xs) ≡ filter f (drop (i + 1) xs)
  kept_on x is fails =
      ap (filter f) (drop_at xs i x is)
      ∙ ap (λ b. cond b (x ∷ filter f (drop (i + 1) xs)) (filter f (drop (i + 1) xs))) fails

  pub kept_split : (x : X) → slice_get xs i ≡ Some x
      → filter f (drop i xs) ≡ filter f (x ∷ []) ++ filter f (drop (i + 1) xs)
  kept_split x is = ap (filter f) (drop_at xs i x is) ∙ by (f x)
    where
      by : (b : Bool) → cond b (x ∷ filter f (drop (i + 1) xs)) (filter f (drop (i + 1) xs))
          ≡ cond b (x ∷ []) [] ++ filter f (drop (i + 1) xs)
      by true = refl
      by false = refl

  pub kept_end : length xs ≤ i → filter f (drop i xs) ≡ []
  kept_end long = ap (filter f) (none_from xs i long)

-- ---- what is put one after another

module _ {A : Type 0} (have whole : List A) where
  -- one more was put
  pub one_put : (x : A) (more rest next : List A) → have ++ rest ≡ whole → rest ≡ x ∷ next
      → more ≡ have ++ x ∷ [] → more ++ next ≡ whole
  one_put x more rest next before first put =
      ap (λ (l : List A). l ++ next) put ∙ append_assoc have (x ∷ []) next
      ∙ ap (λ (l : List A). have ++ l) (sym first) ∙ before

  -- nothing was put
  pub none_put : (rest next : List A) → have ++ rest ≡ whole → rest ≡ next
      → have ++ next ≡ whole
  none_put rest next before same = ap (λ (l : List A). have ++ l) (sym same) ∙ before

  -- nothing is left
  pub all_put : (rest : List A) → have ++ rest ≡ whole → rest ≡ [] → have ≡ whole
  all_put rest before none =
      sym (append-nil have) ∙ ap (λ (l : List A). have ++ l) (sym none) ∙ before

  -- some more were put
  pub some_put : (part more rest next : List A) → have ++ rest ≡ whole → rest ≡ part ++ next
      → more ≡ have ++ part → more ++ next ≡ whole
  some_put part more rest next before first put =
      ap (λ (l : List A). l ++ next) put ∙ append_assoc have part next
      ∙ ap (λ (l : List A). have ++ l) (sym first) ∙ before

-- ---- numbers, from 1

pub numbered_next : {A : Type 0} (xs : List A) (i : ℕ) (x : A) → slice_get xs i ≡ Some x
    → numbered xs (i + 1) ≡ Some x
numbered_next xs i x is =
    let next : i + 1 ≡ suc i = omega arith in ap (numbered xs) next ∙ is

pub row_here : {A B : Type 0} (f : ℕ → A → B) (xs : List A) (i : ℕ) (x : A)
    → slice_get xs i ≡ Some x
    → rows_behind i f xs ≡ f (i + 1) x ∷ rows_behind (i + 1) f xs
row_here f xs i x is =
    let here : 1 + i ≡ i + 1 = omega arith in
    let next : suc (1 + i) ≡ 1 + (i + 1) = omega arith in
    ap (map_from (1 + i) f) (drop_at xs i x is)
    ∙ ap (λ k. f k x ∷ map_from (suc (1 + i)) f (drop (i + 1) xs)) here
    ∙ ap (λ k. f (i + 1) x ∷ map_from k f (drop (i + 1) xs)) next

pub rows_end : {A B : Type 0} (f : ℕ → A → B) (xs : List A) (i : ℕ) → length xs ≤ i
    → rows_behind i f xs ≡ []
rows_end f xs i long = ap (map_from (1 + i) f) (none_from xs i long)

pub run_here : (i n : ℕ) → i < n
    → run_of (1 + i) (n - i) ≡ (i + 1) ∷ run_of (1 + (i + 1)) (n - (i + 1))
run_here i n less =
    let many : n - i ≡ suc (n - (i + 1)) = omega (arith, less) in
    let here : 1 + i ≡ i + 1 = omega arith in
    let next : suc (1 + i) ≡ 1 + (i + 1) = omega arith in
    ap (run_of (1 + i)) many
    ∙ ap (λ k. k ∷ run_of (suc (1 + i)) (n - (i + 1))) here
    ∙ ap (λ k. (i + 1) ∷ run_of k (n - (i + 1))) next

pub run_end : (i n : ℕ) → n ≤ i → run_of (1 + i) (n - i) ≡ []
run_end i n long = let none : n - i ≡ 0 = omega (arith, long) in ap (run_of (1 + i)) none

-- a test of each number of a run
module _ (test : ℕ → Bool) (i n : ℕ) (less : i < n) where
  pub run_any : test (i + 1) ≡ true → list_any test (run_of (1 + i) (n - i)) ≡ true
  run_any holds =
      ap (list_any test) (run_here i n less)
      ∙ ap (λ b. b || list_any test (run_of (1 + (i + 1)) (n - (i + 1)))) holds

  pub run_on : test (i + 1) ≡ false
      → list_any test (run_of (1 + i) (n - i))
      ≡ list_any test (run_of (1 + (i + 1)) (n - (i + 1)))
  run_on fails =
      ap (list_any test) (run_here i n less)
      ∙ ap (λ b. b || list_any test (run_of (1 + (i + 1)) (n - (i + 1)))) fails
