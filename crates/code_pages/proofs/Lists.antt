-- Lists: what stands at a place, where one is set and where one comes.
use Rattle.std.proofs.Common.{ℕ, zero, suc, ◌+◌, ◌≡◌, ◌≢◌, ◌<◌, ◌≤◌, refl, sym, ap, ◌∙◌, List, []}
use Rattle.std.proofs.Common.{◌∷◌, ◌++◌, length, set, Option, Some, None, arith, take, drop}
use Rattle.std.specs.Prelude.{slice_get, slice_index, map, option_map, replicate}

pub got-within : {A : Type 0} (xs : List A) (x : A) (i : ℕ) → slice_get xs i ≡ Some x
    → i < length xs
got-within [] x i h = cc
got-within (a ∷ xs) x zero h = omega arith
got-within (a ∷ xs) x (suc i) h = let r = got-within xs x i h in omega (arith, r)

pub Some-same : {A : Type 0} {x y : A} → ◌≡◌ {A = Option A} (Some x) (Some y) → x ≡ y
Some-same h = cc

-- what stood there before something came behind it
pub got-append : {A : Type 0} (xs ys : List A) (i : ℕ) → i < length xs
    → slice_get (xs ++ ys) i ≡ slice_get xs i
got-append [] ys i h = absurd (omega (arith, h))
got-append (x ∷ xs) ys zero h = refl
got-append (x ∷ xs) ys (suc i) h = got-append xs ys i (omega (arith, h))

-- what came
pub got-last : {A : Type 0} (xs : List A) (y : A) (i : ℕ) → i ≡ length xs
    → slice_get (xs ++ y ∷ []) i ≡ Some y
got-last [] y zero h = refl
got-last [] y (suc i) h = absurd (omega (arith, h))
got-last (x ∷ xs) y zero h = absurd (omega (arith, h))
got-last (x ∷ xs) y (suc i) h = got-last xs y i (omega (arith, h))

pub got-set-same : {A : Type 0} (xs : List A) (i : ℕ) (y : A) → i < length xs
    → slice_get (set xs i y) i ≡ Some y
got-set-same [] i y h = absurd (omega (arith, h))
got-set-same (x ∷ xs) zero y h = refl
got-set-same (x ∷ xs) (suc i) y h = got-set-same xs i y (omega (arith, h))

pub got-set-other : {A : Type 0} (xs : List A) (i k : ℕ) (y : A) → k ≢ i
    → slice_get (set xs i y) k ≡ slice_get xs k
got-set-other [] i k y h = refl
got-set-other (x ∷ xs) zero zero y h = absurd (h refl)
got-set-other (x ∷ xs) zero (suc k) y h = refl
got-set-other (x ∷ xs) (suc i) zero y h = refl
got-set-other (x ∷ xs) (suc i) (suc k) y h = got-set-other xs i k y (λ e. h (ap suc e))

-- a place of a list of numbers, by its number
pub index-of-got : (xs : List ℕ) (i x : ℕ) → slice_get xs i ≡ Some x → slice_index xs i ≡ x
index-of-got [] i x h = cc
index-of-got (y ∷ xs) zero x h = Some-same h
index-of-got (y ∷ xs) (suc i) x h = index-of-got xs i x h

-- and back
pub got-of-index : (xs : List ℕ) (i x : ℕ) → i < length xs → slice_index xs i ≡ x
    → slice_get xs i ≡ Some x
got-of-index [] i x s h = absurd (omega (arith, s))
got-of-index (y ∷ xs) zero x s h = ap Some h
got-of-index (y ∷ xs) (suc i) x s h = got-of-index xs i x (omega (arith, s)) h

-- a number that isn't 0 stands within
pub got-of-some : (xs : List ℕ) (i x : ℕ) → slice_index xs i ≡ suc x → slice_get xs i ≡ Some (suc x)
got-of-some [] i x h = absurd (omega (arith, h))
got-of-some (y ∷ xs) zero x h = ap Some h
got-of-some (y ∷ xs) (suc i) x h = got-of-some xs i x h

-- lists of numbers with the same numbers are one
pub same-lists : (xs ys : List ℕ) → length xs ≡ length ys
    → ((i : ℕ) → i < length xs → slice_index xs i ≡ slice_index ys i) → xs ≡ ys
same-lists [] [] n h = refl
same-lists [] (y ∷ ys) n h = absurd (omega (arith, n))
same-lists (x ∷ xs) [] n h = absurd (omega (arith, n))
same-lists (x ∷ xs) (y ∷ ys) n h =
    ap (λ z. z ∷ xs) (h zero (omega arith))
    ∙ ap (λ zs. y ∷ zs) (same-lists xs ys (omega (arith, n)) (λ i s. h (suc i) (omega (arith, s))))

-- a list of numbers cut out, where a number outside is set
pub cut-set-past : (n o i x : ℕ) (xs : List ℕ) → o + n ≤ i
    → take n (drop o (set xs i x)) ≡ take n (drop o xs)
cut-set-past n o i x [] h = refl
cut-set-past zero zero i x (y ∷ xs) h = refl
cut-set-past (suc n) zero zero x (y ∷ xs) h = absurd (omega (arith, h))
cut-set-past (suc n) zero (suc i) x (y ∷ xs) h =
    ap (λ zs. y ∷ zs) (cut-set-past n zero i x xs (omega (arith, h)))
cut-set-past n (suc o) zero x (y ∷ xs) h = absurd (omega (arith, h))
cut-set-past n (suc o) (suc i) x (y ∷ xs) h = cut-set-past n o i x xs (omega (arith, h))

pub cut-set-before : (n o i x : ℕ) (xs : List ℕ) → i < o
    → take n (drop o (set xs i x)) ≡ take n (drop o xs)
cut-set-before n o i x [] h = refl
cut-set-before n zero i x (y ∷ xs) h = absurd (omega (arith, h))
cut-set-before n (suc o) zero x (y ∷ xs) h = refl
cut-set-before n (suc o) (suc i) x (y ∷ xs) h = cut-set-before n o i x xs (omega (arith, h))

-- the first number of a list cut out
pub cut-one : (n o : ℕ) (xs : List ℕ) → o < length xs
    → take (suc n) (drop o xs) ≡ slice_index xs o ∷ take n (drop (suc o) xs)
cut-one n o [] h = absurd (omega (arith, h))
cut-one n zero (x ∷ xs) h = refl
cut-one n (suc o) (x ∷ xs) h = cut-one n o xs (omega (arith, h))

-- lists with the same at each place are one
pub same-got : {A : Type 0} (xs ys : List A) → ((i : ℕ) → slice_get xs i ≡ slice_get ys i) → xs ≡ ys
same-got [] [] h = refl
same-got [] (y ∷ ys) h = let e = h zero in cc
same-got (x ∷ xs) [] h = let e = h zero in cc
same-got (x ∷ xs) (y ∷ ys) h =
    ap (λ z. z ∷ xs) (Some-same (h zero)) ∙ ap (λ zs. y ∷ zs) (same-got xs ys (λ i. h (suc i)))

pub got-map : {A B : Type 0} (f : A → B) (xs : List A) (i : ℕ)
    → slice_get (map f xs) i ≡ option_map f (slice_get xs i)
got-map f [] i = refl
got-map f (x ∷ xs) zero = refl
got-map f (x ∷ xs) (suc i) = got-map f xs i

pub map-set : {A B : Type 0} (f : A → B) (xs : List A) (i : ℕ) (y : A)
    → map f (set xs i y) ≡ set (map f xs) i (f y)
map-set f [] i y = refl
map-set f (x ∷ xs) zero y = refl
map-set f (x ∷ xs) (suc i) y = ap (λ zs. f x ∷ zs) (map-set f xs i y)

pub map-set-same : {A B : Type 0} (f : A → B) (xs : List A) (i : ℕ) (x y : A)
    → slice_get xs i ≡ Some x → f y ≡ f x → map f (set xs i y) ≡ map f xs
map-set-same f [] i x y h e = refl
map-set-same f (z ∷ xs) zero x y h e =
    ap (λ w. w ∷ map f xs) (e ∙ ap f (sym (Some-same h)))
map-set-same f (z ∷ xs) (suc i) x y h e = ap (λ zs. f z ∷ zs) (map-set-same f xs i x y h e)

pub none-within : {A : Type 0} (xs : List A) (i : ℕ) → slice_get xs i ≡ None → i < length xs → ⊥
none-within [] i h w = omega (arith, w)
none-within (x ∷ xs) zero h w = cc
none-within (x ∷ xs) (suc i) h w = none-within xs i h (omega (arith, w))

pub got-replicate : {A : Type 0} (n i : ℕ) (x y : A) → slice_get (replicate n x) i ≡ Some y → x ≡ y
got-replicate zero i x y h = cc
got-replicate (suc n) zero x y h = Some-same h
got-replicate (suc n) (suc i) x y h = got-replicate n i x y h

pub replicate-more : {A : Type 0} (n m : ℕ) (x : A) → m ≡ suc n
    → replicate n x ++ x ∷ [] ≡ replicate m x
replicate-more {A} n m x e = more n ∙ ap (λ k. replicate k x) (sym e)
  where
    more : (n : ℕ) → replicate n x ++ x ∷ [] ≡ replicate (suc n) x
    more zero = refl
    more (suc n) = ap (λ xs. x ∷ xs) (more n)

pub none-some : {A : Type 0} {x : A} → ◌≡◌ {A = Option A} None (Some x) → ⊥
none-some e = cc
