-- Elements by number: what a change leaves of them, and which of the records are children.
use Rattle.std.proofs.Common.{◌≡◌, ◌≢◌, ℕ, zero, suc, ◌+◌, ◌-◌, ◌<◌, ◌≤◌, true, List}
use Rattle.std.proofs.Common.{[], ◌∷◌, ◌++◌, map, length, get_or, set, slice_get, Option, Some}
use Rattle.std.proofs.Common.{None, option_map, option_and_then, IsSome, inl, inr, refl, sym, ap}
use Rattle.std.proofs.Common.{◌∙◌, arith}
use Rattle.std.specs.Prelude.{not, ◌==◌}
use Rattle.std.proofs.lemmas.Bool.{cases_order, and_parts}
use Rattle.std.proofs.lemmas.Bool.Decides.{nat_tests}
use Rattle.std.proofs.lemmas.Option.{get_or_from_slice_get, slice_get-get_or}
use Rattle.dos_world.specs.Numbered.{numbered, changed, changed_at}
use Rattle.proc_table.specs.declared.record.Record.{Record}
use Rattle.proc_table.specs.Places.{is_collected, place_in, place_of_record}
use Rattle.proc_table.specs.Links.{is_child_at, is_uncollected}
use Rattle.proc_table.specs.Links.{passes}
use Rattle.proc_table.proofs.Linked.{IsFamily}

-- ---- elements by number

pub some_of : {A : Type 0} (o : Option A) → IsSome o → (x : A) × (o ≡ Some x)
some_of None h = cc
some_of (Some x) h = (x, refl)

-- a read that names what it finds, in place of another
pub read_again : {A : Type 0} (xs : List A) (i : ℕ) (d : A) → i < length xs
    → get_or xs i d ≡ get_or xs i (get_or xs i d)
read_again [] i d h = absurd (omega arith)
read_again (x ∷ xs) zero d h = refl
read_again (x ∷ xs) (suc i) d h = read_again xs i d (omega arith)

-- what stands at the place of a number
pub read_of : {A : Type 0} (xs : List A) (n : ℕ) (x : A) → numbered xs n ≡ Some x
    → x ≡ get_or xs (n - 1) x
read_of xs zero x e = cc
read_of xs (suc i) x e =
    let same : suc i - 1 ≡ i = omega arith in
    sym (ap (λ k. get_or xs k x) same ∙ get_or_from_slice_get xs i x x e)

-- the element that is read by its number
pub number_read : {A : Type 0} (xs : List A) (n : ℕ) (x : A) → 0 < n → n ≤ length xs
    → x ≡ get_or xs (n - 1) x → numbered xs n ≡ Some x
number_read xs zero x a b read = absurd (omega arith)
number_read xs (suc i) x a b read =
    let same : suc i - 1 ≡ i = omega arith in
    slice_get-get_or xs i x (omega arith)
    ∙ ap (λ y. Some y) (sym (read ∙ ap (λ k. get_or xs k x) same))

module _ {A : Type 0} where
  pub beyond : (xs : List A) (n : ℕ) → length xs < n → numbered xs n ≡ None
  beyond xs zero h = refl
  beyond xs (suc i) h = by xs i (omega arith)
    where
      by : (xs : List A) (i : ℕ) → length xs ≤ i → slice_get xs i ≡ None
      by [] i h = refl
      by (x ∷ xs) zero h = absurd (omega arith)
      by (x ∷ xs) (suc i) h = by xs i (omega arith)

  pub here : (f : A → A) (xs : List A) (n : ℕ)
      → numbered (changed f xs n) n ≡ option_map f (numbered xs n)
  here f xs zero = refl
  here f xs (suc i) = by xs i
    where
      by : (xs : List A) (i : ℕ) → slice_get (changed_at f xs i) i ≡ option_map f (slice_get xs i)
      by [] i = refl
      by (x ∷ xs) zero = refl
      by (x ∷ xs) (suc i) = by xs i

  pub elsewhere : (f : A → A) (xs : List A) (n m : ℕ) → m ≢ n
      → numbered (changed f xs n) m ≡ numbered xs m
  elsewhere f xs zero m apart = refl
  elsewhere f xs (suc i) zero apart = refl
  elsewhere f xs (suc i) (suc j) apart = by xs i j (λ e. apart (ap (λ k. suc k) e))
    where
      by : (xs : List A) (i j : ℕ) → j ≢ i → slice_get (changed_at f xs i) j ≡ slice_get xs j
      by [] i j apart = refl
      by (x ∷ xs) zero zero apart = absurd (apart refl)
      by (x ∷ xs) zero (suc j) apart = refl
      by (x ∷ xs) (suc i) zero apart = refl
      by (x ∷ xs) (suc i) (suc j) apart = by xs i j (λ e. apart (ap (λ k. suc k) e))

  pub before_last : (xs : List A) (x : A) (n : ℕ) → n ≤ length xs
      → numbered (xs ++ x ∷ []) n ≡ numbered xs n
  before_last xs x zero h = refl
  before_last xs x (suc i) h = by xs i (omega arith)
    where
      by : (xs : List A) (i : ℕ) → i < length xs → slice_get (xs ++ x ∷ []) i ≡ slice_get xs i
      by [] i h = absurd (omega arith)
      by (y ∷ xs) zero h = refl
      by (y ∷ xs) (suc i) h = by xs i (omega arith)

  pub at_last : (xs : List A) (x : A) (n : ℕ) → n ≡ length xs + 1
      → numbered (xs ++ x ∷ []) n ≡ Some x
  at_last xs x zero e = absurd (omega arith)
  at_last xs x (suc i) e = by xs i (omega arith)
    where
      by : (xs : List A) (i : ℕ) → i ≡ length xs → slice_get (xs ++ x ∷ []) i ≡ Some x
      by [] zero e = refl
      by [] (suc i) e = absurd (omega arith)
      by (y ∷ xs) zero e = absurd (omega arith)
      by (y ∷ xs) (suc i) e = by xs i (omega arith)

  pub given_from : (xs : List A) (n : ℕ) {x : A} → numbered xs n ≡ Some x → 0 < n
  given_from xs zero e = cc
  given_from xs (suc i) e = omega arith

  pub given_to : (xs : List A) (n : ℕ) {x : A} → numbered xs n ≡ Some x → n ≤ length xs
  given_to xs n {x} e = elim (cases_order n (length xs)) [
    | inl same ↦ omega arith
    | inr (inl below) ↦ omega arith
    | inr (inr above) ↦ absurd (no (sym (beyond xs n above) ∙ e))
  ]
    where
      no : {x : A} → None ≡ Some x → ⊥
      no e = cc

  pub given_in : (xs : List A) (n : ℕ) → IsSome (numbered xs n) → (0 < n) × (n ≤ length xs)
  given_in xs n h =
      let at = some_of (numbered xs n) h in (given_from xs n at.1, given_to xs n at.1)

  -- what stands at the place of a number, in the list as it is kept
  pub kept_given : {xs ys : List A} → xs ≡ ys → (n : ℕ) → IsSome (numbered ys n) → n - 1 < length xs
  kept_given e n h =
      let given = given_in _ n h in
      omega (arith, given.0, given.1, ap (λ (zs : List A). length zs) e)

  -- who is within has an element
  pub there : (xs : List A) (n : ℕ) → 0 < n → n ≤ length xs → IsSome (numbered xs n)
  there xs zero a b = absurd (omega arith)
  there xs (suc i) a b = by xs i (omega arith)
    where
      by : (xs : List A) (i : ℕ) → i < length xs → IsSome (slice_get xs i)
      by [] i h = absurd (omega arith)
      by (x ∷ xs) zero h = refl
      by (x ∷ xs) (suc i) h = by xs i (omega arith)

  pub mapped : (f : A → A) (xs : List A) (n : ℕ)
      → numbered (map f xs) n ≡ option_map f (numbered xs n)
  mapped f xs zero = refl
  mapped f xs (suc i) = by xs i
    where
      by : (xs : List A) (i : ℕ) → slice_get (map f xs) i ≡ option_map f (slice_get xs i)
      by [] i = refl
      by (x ∷ xs) zero = refl
      by (x ∷ xs) (suc i) = by xs i

  -- an element written at its place
  pub changed_is : (f : A → A) (xs : List A) (n : ℕ) (x : A) → 0 < n → n ≤ length xs
      → x ≡ get_or xs (n - 1) x → set xs (n - 1) (f x) ≡ changed f xs n
  changed_is f xs zero x a b read = absurd (omega arith)
  changed_is f xs (suc i) x a b read =
      let same : suc i - 1 ≡ i = omega arith in
      ap (λ k. set xs k (f x)) same
      ∙ by xs i (omega arith) (read ∙ ap (λ k. get_or xs k x) same)
    where
      by : (xs : List A) (i : ℕ) → i < length xs → x ≡ get_or xs i x
          → set xs i (f x) ≡ changed_at f xs i
      by [] i h read = absurd (omega arith)
      by (y ∷ xs) zero h read = ap (λ z. f z ∷ xs) read
      by (y ∷ xs) (suc i) h read = ap (λ ys. y ∷ ys) (by xs i (omega arith) read)

-- ---- who is a child

-- who lives was given a number
pub live_given : (R : List Record) (p : ℕ) → IsSome (place_in R p) → IsSome (numbered R p)
live_given R p h = by (numbered R p) h
  where
    by : (o : Option Record) → IsSome (option_and_then place_of_record o) → IsSome o
    by None h = h
    by (Some r) h = refl

pub test_of : (q : ℕ) (o : Option Record) → passes (is_uncollected q) o ≡ true → IsSome o
test_of q None e = cc
test_of q (Some r) e = refl

parent_of : (p q : ℕ) (o : Option Record) → passes (is_uncollected p) o ≡ true
    → passes (is_uncollected q) o ≡ true → p ≡ q
parent_of p q None e h = cc
parent_of p q (Some r) e h =
    same r.parent p q (and_parts (r.parent == p) (not (is_collected r.kept)) e).0
    (and_parts (r.parent == q) (not (is_collected r.kept)) h).0
  where
    same : (n p q : ℕ) → (n == p) ≡ true → (n == q) ≡ true → p ≡ q
    same n p q e h = grind (arith, nat_tests)

module _ (R : List Record) where
  pub child_from : (p n : ℕ) → is_child_at R p n ≡ true → 0 < n
  child_from p n t = given_from R n (some_of (numbered R n) (test_of p (numbered R n) t)).1

  pub child_to : (p n : ℕ) → is_child_at R p n ≡ true → n ≤ length R
  child_to p n t = given_to R n (some_of (numbered R n) (test_of p (numbered R n) t)).1

  pub family : length R ≤ 65535 → IsFamily (length R) (is_child_at R)
  family few = record {
    unique = λ p q n t u. parent_of p q (numbered R n) t u;
    from = child_from;
    within = child_to;
    few = omega arith;
  }

-- ---- the last element

pub last_changed : {A : Type 0} (f : A → A) (xs : List A) (x : A) (n : ℕ) → n ≡ length xs + 1
    → changed f (xs ++ x ∷ []) n ≡ xs ++ f x ∷ []
last_changed f xs x zero e = absurd (omega arith)
last_changed {A} f xs x (suc i) e = by xs i (omega arith)
  where
    by : (xs : List A) (i : ℕ) → i ≡ length xs → changed_at f (xs ++ x ∷ []) i ≡ xs ++ f x ∷ []
    by [] zero e = refl
    by [] (suc i) e = absurd (omega arith)
    by (y ∷ ys) zero e = absurd (omega arith)
    by (y ∷ ys) (suc i) e = ap (λ zs. y ∷ zs) (by ys i (omega arith))
