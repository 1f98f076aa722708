-- Lists whose elements are numbered from 1, as processes and threads are. No element has number 0.
-- This project's own rule.
use Rattle.std.specs.Prelude.{ℕ, zero, suc, Bool, List, [], ◌∷◌, Option, None, slice_get}
use Rattle.std.specs.Prelude.{if◌then◌else◌}

-- the element with this number
abbrev pub numbered : {A : Type 0} → List A → ℕ → Option A
numbered xs zero = None
numbered xs (suc i) = slice_get xs i

-- the list with the element at a place, counted from 0, changed by f
abbrev pub changed_at : {A : Type 0} → (A → A) → List A → ℕ → List A
changed_at f [] i = []
changed_at f (x ∷ xs) zero = f x ∷ xs
changed_at f (x ∷ xs) (suc i) = x ∷ changed_at f xs i

-- the list with the element of this number changed by f
abbrev pub changed : {A : Type 0} → (A → A) → List A → ℕ → List A
changed f xs zero = xs
changed f xs (suc i) = changed_at f xs i

-- the places, counted from n, at which the test passes
abbrev pub places_from : {A : Type 0} → ℕ → (A → Bool) → List A → List ℕ
places_from n test [] = []
places_from n test (x ∷ xs) =
    let rest = places_from (suc n) test xs in if test x then n ∷ rest else rest

-- the numbers of the elements that pass, in rising order
abbrev pub numbers_of : {A : Type 0} → (A → Bool) → List A → List ℕ
numbers_of test xs = places_from 1 test xs

-- each element by its place, counted from n
abbrev pub map_from : {A B : Type 0} → ℕ → (ℕ → A → B) → List A → List B
map_from n f [] = []
map_from n f (x ∷ xs) = f n x ∷ map_from (suc n) f xs

-- n, n + 1 and so on, so many of them
abbrev pub run_of : ℕ → ℕ → List ℕ
run_of n zero = []
run_of n (suc count) = let rest = run_of (suc n) count in n ∷ rest
