-- Lists whose elements are numbered from 1: what a change of one element leaves of the others.
use Rattle.std.proofs.Common.{ℕ, zero, suc, ◌≡◌, refl, sym, ap, Bool, cond, List, []}
use Rattle.std.proofs.Common.{◌∷◌, Option, None}
use Rattle.std.specs.Prelude.{slice_get, map}
pub use Rattle.dos_world.proofs.Numbers.{length-changed, changed_there}
use Rattle.dos_world.specs.Numbered.{numbered, changed, changed_at, places_from, numbers_of}
use Rattle.dos_world.specs.World.{flat}

-- ---- the numbers of those that pass a test

-- The same numbers, where the change leaves the test.
pub numbers_same : {A : Type 0} (f : A → A) (test : A → Bool) → ((x : A) → test (f x) ≡ test x)
    → (xs : List A) (t : ℕ) → numbers_of test (changed f xs t) ≡ numbers_of test xs
numbers_same f test same xs zero = refl
numbers_same {A} f test same xs (suc i) = places_same xs i 1
  where
    places_same : (xs : List A) (i n : ℕ)
        → places_from n test (changed_at f xs i) ≡ places_from n test xs
    places_same [] i n = refl
    places_same (x ∷ xs) zero n =
        ap (λ (b : Bool). let rest = places_from (suc n) test xs in cond b (n ∷ rest) rest) (same x)
    places_same (x ∷ xs) (suc i) n =
        ap (λ rest. cond (test x) (n ∷ rest) rest) (places_same xs i (suc n))

-- ---- each element that is there

-- What was none stays none: the elements, each changed, by their numbers.
pub mapped_at : {A : Type 0} (f : Option A → Option A) → f None ≡ None
    → (xs : List (Option A)) (t : ℕ) → flat (numbered (map f xs) t) ≡ f (flat (numbered xs t))
mapped_at f none xs zero = sym none
mapped_at {A} f none xs (suc i) = at xs i
  where
    at : (xs : List (Option A)) (i : ℕ) → flat (slice_get (map f xs) i) ≡ f (flat (slice_get xs i))
    at [] i = sym none
    at (x ∷ xs) zero = refl
    at (x ∷ xs) (suc i) = at xs i
