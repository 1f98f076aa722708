-- Numbers that are put into rising lists.
use Rattle.std.proofs.Common.{◌≡◌, ℕ, zero, suc, ◌≤◌, List, [], ◌∷◌, length}
use Rattle.std.proofs.Common.{Bool, true, false, cond, refl, sym, ap, ◌∙◌, arith}
use Rattle.std.specs.Prelude.{slice_get, nat_le, nat_lt, ◌==◌, ◌&&◌}
use Rattle.std.specs.List.{list_all, insert}
use Rattle.std.proofs.lemmas.Bool.{true≢false}
use Rattle.std.proofs.lemmas.Bool.{eqb-true}
use Rattle.std.proofs.lemmas.Bool.Decides.{nat_tests}
use Rattle.flat_machine.specs.Opening.{with_number, rising}
use Rattle.debug_session.specs.Homes.{is_some_number}
use Rattle.debug_client.specs.Numbers.{place_for}
use Rattle.debug_client.proofs.Tests.{and_both}

abbrev placed_at : (n x : ℕ) → (xs : List ℕ) → Bool → ℕ
placed_at n x xs b = elim b [ true ↦ zero | false ↦ suc (place_for n xs) ]

pub place_within : (n : ℕ) (xs : List ℕ) → place_for n xs ≤ length xs
place_within n [] = omega arith
place_within n (x ∷ xs) = by (place_within n xs) (nat_le n x)
  where
    by : place_for n xs ≤ length xs → (b : Bool) → placed_at n x xs b ≤ suc (length xs)
    by rest true = omega arith
    by rest false = omega (arith, rest)

-- by the three ways in which two numbers stand
abbrev with_by : (n x : ℕ) → (xs : List ℕ) → (below same : Bool) → List ℕ
with_by n x xs below same =
    cond below (n ∷ x ∷ xs) (cond same (x ∷ xs) (x ∷ with_number n xs))

-- a number that stands there isn't put in again
pub put_same : (n : ℕ) (xs : List ℕ)
    → is_some_number n (slice_get xs (place_for n xs)) ≡ true → with_number n xs ≡ xs
put_same n [] there = absurd (true≢false (sym there))
put_same n (x ∷ xs) there = by (put_same n xs) (nat_le n x) refl there
  where
    by : (is_some_number n (slice_get xs (place_for n xs)) ≡ true → with_number n xs ≡ xs)
        → (b : Bool) → nat_le n x ≡ b
        → is_some_number n (slice_get (x ∷ xs) (placed_at n x xs b)) ≡ true
        → with_by n x xs (nat_lt n x) (n == x) ≡ x ∷ xs
    by rest true le there =
        let is : n ≡ x = eqb-true n x there in
        let not_below : nat_lt n x ≡ false = grind (arith, nat_tests) in
        ap (λ b. with_by n x xs b (n == x)) not_below
        ∙ ap (λ b. cond b (x ∷ xs) (x ∷ with_number n xs)) there
    by rest false gt there =
        let not_below : nat_lt n x ≡ false = grind (arith, nat_tests) in
        let other : (n == x) ≡ false = grind (arith, nat_tests) in
        ap (λ b. with_by n x xs b (n == x)) not_below
        ∙ ap (λ b. with_by n x xs false b) other
        ∙ ap (λ (l : List ℕ). x ∷ l) (rest there)

-- another is put in at its place
pub put_new : (n : ℕ) (xs : List ℕ)
    → is_some_number n (slice_get xs (place_for n xs)) ≡ false
    → with_number n xs ≡ insert xs (place_for n xs) n
put_new n [] other = refl
put_new n (x ∷ xs) other = by (put_new n xs) (nat_le n x) refl other
  where
    by : (is_some_number n (slice_get xs (place_for n xs)) ≡ false
        → with_number n xs ≡ insert xs (place_for n xs) n)
        → (b : Bool) → nat_le n x ≡ b
        → is_some_number n (slice_get (x ∷ xs) (placed_at n x xs b)) ≡ false
        → with_by n x xs (nat_lt n x) (n == x) ≡ insert (x ∷ xs) (placed_at n x xs b) n
    by rest true le other =
        let below : nat_lt n x ≡ true = grind (arith, nat_tests) in
        ap (λ b. with_by n x xs b (n == x)) below
    by rest false gt other =
        let not_below : nat_lt n x ≡ false = grind (arith, nat_tests) in
        let apart : (n == x) ≡ false = grind (arith, nat_tests) in
        ap (λ b. with_by n x xs b (n == x)) not_below
        ∙ ap (λ b. with_by n x xs false b) apart
        ∙ ap (λ (l : List ℕ). x ∷ l) (rest other)

-- ---- what holds of each stays

with_all : (f : ℕ → Bool) (n : ℕ) (xs : List ℕ) → f n ≡ true → list_all f xs ≡ true
    → list_all f (with_number n xs) ≡ true
with_all f n [] first all = ap (λ b. b && true) first
with_all f n (x ∷ xs) first all =
    by (with_all f n xs first) (and_both (f x) (list_all f xs) all) (nat_lt n x) (n == x)
  where
    by : (list_all f xs ≡ true → list_all f (with_number n xs) ≡ true)
        → (f x ≡ true) × (list_all f xs ≡ true) → (below same : Bool)
        → list_all f (with_by n x xs below same) ≡ true
    by rest both true same = ap (λ b. b && list_all f (x ∷ xs)) first ∙ all
    by rest both false true = all
    by rest both false false =
        ap (λ b. b && list_all f (with_number n xs)) both.0 ∙ rest both.1

pub rising_all : (f : ℕ → Bool) (xs : List ℕ) → list_all f xs ≡ true
    → list_all f (rising xs) ≡ true
rising_all f [] all = refl
rising_all f (x ∷ xs) all =
    let both = and_both (f x) (list_all f xs) all in
    with_all f x (rising xs) both.0 (rising_all f xs both.1)
