-- Lists of numbers that run on by one, and lists that rise.
use Rattle.std.proofs.Common.{ℕ, zero, suc, ◌+◌, ◌-◌, ◌<◌, ◌≤◌, ◌≡◌, ◌⊎◌, inl, inr, refl, sym, ap}
use Rattle.std.proofs.Common.{◌∙◌, subst, Bool, cond, true, false, List, [], ◌∷◌, ◌++◌, length, map}
use Rattle.std.proofs.Common.{arith}
use Rattle.std.specs.Prelude.{All, flat_map, count_by, ◌==◌, nat_lt, slice_index, slice_index_or}
use Rattle.std.specs.Prelude.{replicate}
use Rattle.std.specs.List.{list_any}
use Rattle.std.specs.List.Sorted.{IsStrictlyIncreasing}
use Rattle.std.proofs.lemmas.Bool.{ltb-true, ltb-false, eqb-false, eq-eqb, ne_eqb, cases_lt}
use Rattle.std.proofs.lemmas.Bool.{or_left, or_right, or_from}
use Rattle.std.proofs.lemmas.List.{length-append, length-replicate}
use Rattle.std.proofs.lemmas.List.Elements.{All-nil, All-cons, All-head, All-tail, All-append}
use Rattle.std.proofs.lemmas.List.Sums.{sum_by-cons}
use Rattle.dos_world.specs.Numbered.{map_from, run_of}
use Rattle.flat_machine.specs.Opening.{with_number, rising}

-- ---- lists

-- what holds of each piece's elements holds of all
pub All-flat_map : {A B : Type 0} (P : B → Type 0) (f : A → List B) (xs : List A)
    → All (λ x. All P (f x)) xs → All P (flat_map f xs)
All-flat_map P f [] h = All-nil P
All-flat_map P f (x ∷ xs) h =
    All-append P (f x) (flat_map f xs) (All-head (λ x. All P (f x)) x xs h)
    (All-flat_map P f xs (All-tail (λ x. All P (f x)) x xs h))

-- an element of a list of one, or what stands for none
pub same_everywhere : {A : Type 0} (n i : ℕ) (x : A) → slice_index_or (replicate n x) i x ≡ x
same_everywhere zero i x = refl
same_everywhere (suc n) zero x = refl
same_everywhere (suc n) (suc i) x = same_everywhere n i x

-- a list with so many zeros behind it
pub length_with_zeros : (xs : List ℕ) (n m : ℕ) → length xs ≡ n
    → length (xs ++ replicate m 0) ≡ n + m
length_with_zeros xs n m e =
    omega (arith, length-append xs (replicate m 0), length-replicate {A = ℕ} m 0, e)

pub any_of_map : {A B : Type 0} (test : B → Bool) (f : A → B) (xs : List A)
    → list_any (λ x. test (f x)) xs ≡ list_any test (map f xs)
any_of_map test f [] = refl
any_of_map test f (x ∷ xs) = rw (any_of_map test f xs)

pub count_of_map : {A B : Type 0} (test : B → Bool) (f : A → B) (xs : List A)
    → count_by (λ x. test (f x)) xs ≡ count_by test (map f xs)
count_of_map test f [] = refl
count_of_map test f (x ∷ xs) = sum_by-cons (λ x. cond (test (f x)) 1 0) x xs
    ∙ ap (λ n. cond (test (f x)) 1 0 + n) (count_of_map test f xs)
    ∙ sym (sum_by-cons (λ y. cond (test y) 1 0) (f x) (map f xs))

-- ---- runs

pub length_run : (a n : ℕ) → length (run_of a n) ≡ n
length_run a zero = refl
length_run a (suc n) = ap suc (length_run (suc a) n)

pub append_runs : (a n m : ℕ) → run_of a n ++ run_of (a + n) m ≡ run_of a (n + m)
append_runs a zero m = grind arith
append_runs a (suc n) m =
    let shift : run_of (a + suc n) m ≡ run_of (suc a + n) m = ap (λ k. run_of k m) (omega arith) in
    let rest : run_of (suc a) n ++ run_of (a + suc n) m ≡ run_of (suc a) (n + m) =
    ap (λ xs. run_of (suc a) n ++ xs) shift ∙ append_runs (suc a) n m in
    let count : suc n + m ≡ suc (n + m) = omega arith in
    ap (λ xs. a ∷ xs) rest ∙ sym (ap (run_of a) count)

-- a run up to a number, and the number
pub run_push : (a n : ℕ) → a ≤ n → run_of a (n - a) ++ n ∷ [] ≡ run_of a (n + 1 - a)
run_push a n le =
    ap (λ k. run_of a (n - a) ++ k ∷ []) (omega arith) ∙ append_runs a (n - a) 1
    ∙ ap (run_of a) (omega arith)

pub at_run : (a n i : ℕ) → i < n → slice_index (run_of a n) i ≡ a + i
at_run a zero i lt = absurd (omega arith)
at_run a (suc n) zero lt = omega arith
at_run a (suc n) (suc i) lt = let rest = at_run (suc a) n i (omega arith) in omega arith

pub within_run : (P : ℕ → Type 0) (a n : ℕ) → ((k : ℕ) → a ≤ k → k < a + n → P k)
    → All P (run_of a n)
within_run P a zero f = All-nil P
within_run P a (suc n) f =
    All-cons P a (run_of (suc a) n) (f a (omega arith) (omega arith))
    (within_run P (suc a) n (λ k le lt. f k (omega arith) (omega arith)))

-- a number is in a run once, where it is in it
pub any_in_run : (x a n : ℕ) → a ≤ x → x < a + n → list_any (λ k. k == x) (run_of a n) ≡ true
any_in_run x a zero le lt = absurd (omega arith)
any_in_run x a (suc n) le lt =
    go (λ below. any_in_run x (suc a) n below (omega arith)) (cases_lt a x)
  where
    go : (suc a ≤ x → list_any (λ k. k == x) (run_of (suc a) n) ≡ true) → (a < x) ⊎ (x ≤ a)
        → list_any (λ k. k == x) (run_of a (suc n)) ≡ true
    go rest (inl below) =
        or_right (a == x) (list_any (λ k. k == x) (run_of (suc a) n)) (rest (omega arith))
    go rest (inr above) =
        or_left (a == x) (list_any (λ k. k == x) (run_of (suc a) n)) (eq-eqb a x (omega arith))

pub none_in_run : (x a n : ℕ) → (x < a) ⊎ (a + n ≤ x) → list_any (λ k. k == x) (run_of a n) ≡ false
none_in_run x a zero out = refl
none_in_run x a (suc n) out =
    or_from (a == x) (list_any (λ k. k == x) (run_of (suc a) n)) (ne_eqb a x (λ e. omega arith))
    (none_in_run x (suc a) n (further out))
  where
    further : (x < a) ⊎ (a + suc n ≤ x) → (x < suc a) ⊎ (suc a + n ≤ x)
    further (inl below) = inl (omega arith)
    further (inr above) = inr (omega arith)

pub none_counted : (x a n : ℕ) → (x < a) ⊎ (a + n ≤ x) → count_by (λ k. k == x) (run_of a n) ≡ 0
none_counted x a zero out = refl
none_counted x a (suc n) out =
    let other : (a == x) ≡ false = ne_eqb a x (λ e. omega arith) in
    sum_by-cons (λ k. cond (k == x) 1 0) a (run_of (suc a) n)
    ∙ ap (λ b. cond b 1 0 + count_by (λ k. k == x) (run_of (suc a) n)) other
    ∙ ap (λ m. 0 + m) (none_counted x (suc a) n (further out))
  where
    further : (x < a) ⊎ (a + suc n ≤ x) → (x < suc a) ⊎ (suc a + n ≤ x)
    further (inl below) = inl (omega arith)
    further (inr above) = inr (omega arith)

pub one_counted : (x a n : ℕ) → a ≤ x → x < a + n → count_by (λ k. k == x) (run_of a n) ≡ 1
one_counted x a zero le lt = absurd (omega arith)
one_counted x a (suc n) le lt = sum_by-cons (λ k. cond (k == x) 1 0) a (run_of (suc a) n)
    ∙ go (λ below. one_counted x (suc a) n below (omega arith)) (cases_lt a x)
  where
    go : (suc a ≤ x → count_by (λ k. k == x) (run_of (suc a) n) ≡ 1) → (a < x) ⊎ (x ≤ a)
        → cond (a == x) 1 0 + count_by (λ k. k == x) (run_of (suc a) n) ≡ 1
    go next (inl below) =
        let other : (a == x) ≡ false = ne_eqb a x (λ e. omega arith) in
        ap (λ b. cond b 1 0 + count_by (λ k. k == x) (run_of (suc a) n)) other
        ∙ ap (λ m. 0 + m) (next (omega arith))
    go next (inr above) =
        let same : (a == x) ≡ true = eq-eqb a x (omega arith) in
        let rest : count_by (λ k. k == x) (run_of (suc a) n) ≡ 0 =
        none_counted x (suc a) n (inl (omega arith)) in
        ap (λ b. cond b 1 0 + count_by (λ k. k == x) (run_of (suc a) n)) same ∙ ap (λ m. 1 + m) rest

-- ---- what is made of a list and a run

-- what keeps the places makes a run
pub places_kept : {A B : Type 0} (place : B → ℕ) (f : ℕ → A → B)
    → ((n : ℕ) (x : A) → place (f n x) ≡ n) → (n : ℕ) (xs : List A)
    → map place (map_from n f xs) ≡ run_of n (length xs)
places_kept place f each n [] = refl
places_kept place f each n (x ∷ xs) = ap (λ k. k ∷ map place (map_from (suc n) f xs)) (each n x)
    ∙ ap (λ ys. n ∷ ys) (places_kept place f each (suc n) xs)

-- what keeps the elements makes the list again
pub elements_kept : {A B : Type 0} (element : B → A) (f : ℕ → A → B)
    → ((n : ℕ) (x : A) → element (f n x) ≡ x) → (n : ℕ) (xs : List A)
    → map element (map_from n f xs) ≡ xs
elements_kept element f each n [] = refl
elements_kept element f each n (x ∷ xs) =
    ap (λ k. k ∷ map element (map_from (suc n) f xs)) (each n x)
    ∙ ap (λ ys. x ∷ ys) (elements_kept element f each (suc n) xs)

-- ---- lists that rise

-- each number is above the one before it; the first is at least a, and all are below b
abbrev pub RisesWithin : ℕ → ℕ → List ℕ → Type 0
RisesWithin a b [] = a ≤ b
RisesWithin a b (x ∷ xs) = (a ≤ x) × RisesWithin (suc x) b xs

pub rises_from_lower : (a b c : ℕ) (xs : List ℕ) → a ≤ b → RisesWithin b c xs → RisesWithin a c xs
rises_from_lower a b c [] le h = let h' : b ≤ c = h in omega arith
rises_from_lower a b c (x ∷ xs) le h = let first : b ≤ x = h.0 in (omega arith, h.1)

pub rises_on : (a b c : ℕ) (xs ys : List ℕ) → RisesWithin a b xs → RisesWithin b c ys
    → RisesWithin a c (xs ++ ys)
rises_on a b c [] ys h k = rises_from_lower a b c ys h k
rises_on a b c (x ∷ xs) ys h k = (h.0, rises_on (suc x) b c xs ys h.1 k)

pub run_rises : (a n : ℕ) → RisesWithin a (a + n) (run_of a n)
run_rises a zero = omega arith
run_rises a (suc n) = let rest : RisesWithin (suc a) (suc a + n) (run_of (suc a) n) =
    run_rises (suc a) n in
    (omega arith, subst (λ b. RisesWithin (suc a) b (run_of (suc a) n)) (omega arith) rest)

pub with_number_rises : (a b n : ℕ) (xs : List ℕ) → a ≤ n → n < b → RisesWithin a b xs
    → RisesWithin a b (with_number n xs)
with_number_rises a b n [] le lt h = (le, omega arith)
with_number_rises a b n (x ∷ xs) le lt h =
    by_test (λ above. with_number_rises (suc x) b n xs above lt h.1) (nat_lt n x) refl
  where
    by_equal : (suc x ≤ n → RisesWithin (suc x) b (with_number n xs)) → (t : Bool) → (n == x) ≡ t
        → x ≤ n → RisesWithin a b (cond t (x ∷ xs) (x ∷ with_number n xs))
    by_equal rest true e above = h
    by_equal rest false e above = let other : n ≡ x
        → ⊥ = eqb-false n x e in (h.0, rest (omega (arith, other)))

    by_test : (suc x ≤ n → RisesWithin (suc x) b (with_number n xs)) → (t : Bool) → nat_lt n x ≡ t
        → RisesWithin a b (cond t (n ∷ x ∷ xs) (cond (n == x) (x ∷ xs) (x ∷ with_number n xs)))
    by_test rest true e = let below : n < x = ltb-true n x e in (le, (omega arith, h.1))
    by_test rest false e = by_equal rest (n == x) refl (ltb-false n x e)

pub rising_rises : (a b : ℕ) (ns : List ℕ) → a ≤ b → All (λ n. (a ≤ n) × (n < b)) ns
    → RisesWithin a b (rising ns)
rising_rises a b [] le h = le
rising_rises a b (n ∷ ns) le h =
    let first : (a ≤ n) × (n < b) = All-head (λ n. (a ≤ n) × (n < b)) n ns h in
    with_number_rises a b n (rising ns) first.0 first.1
    (rising_rises a b ns le (All-tail (λ n. (a ≤ n) × (n < b)) n ns h))

pub within_rise : (a b : ℕ) (xs : List ℕ) → RisesWithin a b xs → All (λ n. (a ≤ n) × (n < b)) xs
within_rise a b xs h = go a xs (omega arith) h
  where
    bounded : (c : ℕ) (ys : List ℕ) → RisesWithin c b ys → c ≤ b
    bounded c [] k = k
    bounded c (y ∷ ys) k = let rest : suc y ≤ b = bounded (suc y) ys k.1 in let first : c ≤ y =
        k.0 in omega arith

    go : (c : ℕ) (ys : List ℕ) → a ≤ c → RisesWithin c b ys → All (λ n. (a ≤ n) × (n < b)) ys
    go c [] le k = All-nil (λ n. (a ≤ n) × (n < b))
    go c (y ∷ ys) le k =
        let first : c ≤ y = k.0 in
        let last : suc y ≤ b = bounded (suc y) ys k.1 in
        All-cons (λ n. (a ≤ n) × (n < b)) y ys (omega arith, omega arith)
        (go (suc y) ys (omega arith) k.1)

pub increases : (a b : ℕ) (xs : List ℕ) → RisesWithin a b xs → IsStrictlyIncreasing xs
increases a b [] h k lt = absurd (omega arith)
increases a b (x ∷ []) h k lt = absurd (omega arith)
increases a b (x ∷ y ∷ ys) h zero lt = let next : suc x ≤ y = h.1.0 in grind arith
increases a b (x ∷ y ∷ ys) h (suc k) lt = let rest =
    increases (suc x) b (y ∷ ys) h.1 k (omega arith) in grind (arith, rest)
