-- Lists whose elements are numbered from 1: what a change of one element leaves of the others.
use Rattle.std.proofs.Common.{ℕ, zero, suc, ◌≡◌, ◌≢◌, refl, ap, List, [], ◌∷◌, length, Option, Some}
use Rattle.std.proofs.Common.{None, option_map}
use Rattle.std.specs.Prelude.{slice_get}
use Rattle.dos_world.specs.Numbered.{numbered, changed, changed_at}
use Rattle.dos_world.specs.World.{flat}

-- ---- as many as before

length-changed_at : {A : Type 0} (f : A → A) (xs : List A) (i : ℕ)
    → length (changed_at f xs i) ≡ length xs
length-changed_at f [] i = refl
length-changed_at f (x ∷ xs) zero = refl
length-changed_at f (x ∷ xs) (suc i) = ap suc (length-changed_at f xs i)

pub length-changed : {A : Type 0} (f : A → A) (xs : List A) (t : ℕ)
    → length (changed f xs t) ≡ length xs
length-changed f xs zero = refl
length-changed f xs (suc i) = length-changed_at f xs i

-- ---- each element

-- another element stands
pub changed_other : {A : Type 0} (f : A → A) (xs : List A) (t s : ℕ) → s ≢ t
    → numbered (changed f xs t) s ≡ numbered xs s
changed_other f xs zero s other = refl
changed_other f xs (suc i) zero other = refl
changed_other f xs (suc i) (suc j) other = walk xs i j (λ e. other (ap suc e))
  where
    walk : (xs : List _) (i j : ℕ) → j ≢ i → slice_get (changed_at f xs i) j ≡ slice_get xs j
    walk [] i j other = refl
    walk (x ∷ xs) zero zero other = absurd (other refl)
    walk (x ∷ xs) zero (suc j) other = refl
    walk (x ∷ xs) (suc i) zero other = refl
    walk (x ∷ xs) (suc i) (suc j) other = walk xs i j (λ e. other (ap suc e))

-- The one of the number is changed, where it is there.
pub changed_there : {A : Type 0} (f : A → A) (xs : List (Option A)) (t : ℕ)
    → flat (numbered (changed (option_map f) xs t) t) ≡ option_map f (flat (numbered xs t))
changed_there f xs zero = refl
changed_there {A} f xs (suc i) = at xs i
  where
    at : (xs : List (Option A)) (i : ℕ)
        → flat (slice_get (changed_at (option_map f) xs i) i) ≡ option_map f (flat (slice_get xs i))
    at [] i = refl
    at (None ∷ xs) zero = refl
    at (Some x ∷ xs) zero = refl
    at (x ∷ xs) (suc i) = at xs i
