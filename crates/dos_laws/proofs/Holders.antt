-- What the processes have, where what one of them has changes: sums, tests and properties of all
-- that is had.
use Rattle.std.proofs.Common.{ℕ, zero, suc, ◌+◌, ◌<◌, ◌≡◌, refl, sym, ap, ◌∙◌, subst, Bool, true}
use Rattle.std.proofs.Common.{false, cond, List, [], ◌∷◌, length, Option, Some, None}
use Rattle.std.proofs.Common.{option_and_then, arith}
use Rattle.std.specs.Prelude.{All, IfSome, slice_get, is_some, count_by, sum_by, ◌||◌}
use Rattle.std.specs.List.{list_any}
use Rattle.std.proofs.lemmas.Bool.{true≢false}
use Rattle.std.proofs.lemmas.List.Sums.{sum_by-cons}
use Rattle.std.proofs.lemmas.List.Elements.{All-nil, All-cons, All-head, All-tail}
use Rattle.dos_world.specs.Numbered.{numbered, changed, changed_at}
use Rattle.dos_world.specs.World.{Process, Holdings, Life, live, ended, holdings_of, all_holdings}
use Rattle.dos_world.specs.World.{on_holdings, live_changed, status_of}
use Rattle.dos_laws.proofs.Stands.{HasStatus}

-- ---- a test that passes somewhere counts

module _ {A B : Type 0} (test : B → Bool) (of : A → List B) where
  count-cons : (x : B) (xs : List B) → count_by test (x ∷ xs) ≡ cond (test x) 1 0 + count_by test xs
  count-cons x xs = sum_by-cons (λ y. cond {A = ℕ} (test y) 1 0) x xs

  one_counts : (xs : List B) → list_any test xs ≡ true → 0 < count_by test xs
  one_counts [] e = absurd (true≢false (sym e))
  one_counts (x ∷ xs) e = by_test (one_counts xs) (test x) refl e
    where
      by_test : (list_any test xs ≡ true → 0 < count_by test xs) → (b : Bool) → test x ≡ b
          → (b || list_any test xs) ≡ true → 0 < count_by test (x ∷ xs)
      by_test rest true h e =
          let one : cond {A = ℕ} (test x) 1 0 ≡ 1 = ap (λ b. cond {A = ℕ} b 1 0) h in
          omega (arith, count-cons x xs, one)
      by_test rest false h e = omega (arith, count-cons x xs, rest e)

  one_there : (xs : List B) → 0 < count_by test xs → list_any test xs ≡ true
  one_there [] h = absurd (omega arith)
  one_there (x ∷ xs) h = by_test (one_there xs) (test x) refl
    where
      by_test : (0 < count_by test xs → list_any test xs ≡ true) → (b : Bool) → test x ≡ b
          → (b || list_any test xs) ≡ true
      by_test rest true e = refl
      by_test rest false e =
          let none : cond {A = ℕ} (test x) 1 0 ≡ 0 = ap (λ b. cond {A = ℕ} b 1 0) e in
          rest (omega (arith, count-cons x xs, none, h))

  -- where something in the lists passes, the sum of the counts is positive, and else it isn't
  pub any_counts : (xs : List A) → list_any (λ x. list_any test (of x)) xs ≡ true
      → 0 < sum_by (λ x. count_by test (of x)) xs
  any_counts [] e = absurd (true≢false (sym e))
  any_counts (x ∷ xs) e = by_test (any_counts xs) (list_any test (of x)) refl e
    where
      by_test : (list_any (λ y. list_any test (of y)) xs ≡ true
          → 0 < sum_by (λ y. count_by test (of y)) xs)
          → (b : Bool) → list_any test (of x) ≡ b
          → (b || list_any (λ y. list_any test (of y)) xs) ≡ true
          → 0 < sum_by (λ y. count_by test (of y)) (x ∷ xs)
      by_test rest true h e =
          omega (arith, sum_by-cons (λ y. count_by test (of y)) x xs, one_counts (of x) h)
      by_test rest false h e = omega (arith, sum_by-cons (λ y. count_by test (of y)) x xs, rest e)

  pub counts_any : (xs : List A) → 0 < sum_by (λ x. count_by test (of x)) xs
      → list_any (λ x. list_any test (of x)) xs ≡ true
  counts_any [] h = absurd (omega arith)
  counts_any (x ∷ xs) h = by_test (counts_any xs) (list_any test (of x)) refl
    where
      by_count : (n : ℕ) → count_by test (of x) ≡ n → list_any test (of x) ≡ false → n ≡ 0
      by_count zero e no_one = refl
      by_count (suc n) e no_one =
          absurd (true≢false (sym (one_there (of x) (omega (arith, e))) ∙ no_one))

      by_test : (0 < sum_by (λ y. count_by test (of y)) xs
          → list_any (λ y. list_any test (of y)) xs ≡ true)
          → (b : Bool) → list_any test (of x) ≡ b
          → (b || list_any (λ y. list_any test (of y)) xs) ≡ true
      by_test rest true e = refl
      by_test rest false e =
          let none : count_by test (of x) ≡ 0 = by_count (count_by test (of x)) refl e in
          rest (omega (arith, sum_by-cons (λ y. count_by test (of y)) x xs, none, h))

-- ---- one process has something else

-- in front of a list, where it is there
abbrev pub in_front : Option Holdings → List Holdings → List Holdings
in_front o rest = elim o as (λ _. List Holdings) [ None ↦ rest | Some h ↦ h ∷ rest ]

-- what this process has, where it lives
abbrev pub held_by : List Process → ℕ → Option Holdings
held_by ps p = option_and_then holdings_of (numbered ps p)

module _ (f : Holdings → Holdings) where
  has : (x : Process) (h : Holdings) → holdings_of x ≡ Some h
      → holdings_of (on_holdings f x) ≡ Some (f h)
  has x h e = by_life x.life e
    where
      by_life : (l : Life)
          → elim l as (λ _. Option Holdings) [ live g ↦ Some g | ended status collected ↦ None ]
          ≡ Some h
          → elim (live_changed f l) as (λ _. Option Holdings) [
            | live g ↦ Some g
            | ended status collected ↦ None
          ] ≡ Some (f h)
      by_life (live g) e = let same : g ≡ h = cc in ap (λ y. Some (f y)) same
      by_life (ended status collected) e = cc

  -- what the one has now
  pub has_changed : (ps : List Process) (p : ℕ) (h : Holdings) → held_by ps p ≡ Some h
      → held_by (changed (on_holdings f) ps p) p ≡ Some (f h)
  has_changed ps zero h e = cc
  has_changed ps (suc i) h e = at ps i e
    where
      at : (ps : List Process) (i : ℕ) → option_and_then holdings_of (slice_get ps i) ≡ Some h
          → option_and_then holdings_of (slice_get (changed_at (on_holdings f) ps i) i) ≡ Some (f h)
      at [] i e = cc
      at (x ∷ ps) zero e = has x h e
      at (x ∷ ps) (suc i) e = at ps i e

  -- a sum over all that is had
  pub sum_changed : (g : Holdings → ℕ) (ps : List Process) (p : ℕ) (h : Holdings)
      → held_by ps p ≡ Some h
      → sum_by g (all_holdings (changed (on_holdings f) ps p)) + g h
      ≡ sum_by g (all_holdings ps) + g (f h)
  sum_changed g ps zero h e = cc
  sum_changed g ps (suc i) h e = at ps i e
    where
      front : (o : Option Holdings) (many few : List Holdings) (a b : ℕ)
          → sum_by g few + a ≡ sum_by g many + b
          → sum_by g (in_front o few) + a ≡ sum_by g (in_front o many) + b
      front None many few a b same = same
      front (Some x) many few a b same =
          omega (arith, sum_by-cons g x few, sum_by-cons g x many, same)

      here : (o o' : Option Holdings) (rest : List Holdings) → o ≡ Some h → o' ≡ Some (f h)
          → sum_by g (in_front o' rest) + g h ≡ sum_by g (in_front o rest) + g (f h)
      here o o' rest e e' =
          let before : sum_by g (in_front o rest) ≡ g h + sum_by g rest =
          ap (λ x. sum_by g (in_front x rest)) e ∙ sum_by-cons g h rest in
          let after : sum_by g (in_front o' rest) ≡ g (f h) + sum_by g rest =
          ap (λ x. sum_by g (in_front x rest)) e' ∙ sum_by-cons g (f h) rest in
          omega (arith, before, after)

      at : (ps : List Process) (i : ℕ) → option_and_then holdings_of (slice_get ps i) ≡ Some h
          → sum_by g (all_holdings (changed_at (on_holdings f) ps i)) + g h
          ≡ sum_by g (all_holdings ps) + g (f h)
      at [] i e = cc
      at (x ∷ ps) zero e =
          here (holdings_of x) (holdings_of (on_holdings f x)) (all_holdings ps) e (has x h e)
      at (x ∷ ps) (suc i) e =
          front (holdings_of x) (all_holdings ps) (all_holdings (changed_at (on_holdings f) ps i))
          (g h) (g (f h)) (at ps i e)

  -- what holds of all that is had
  pub all_changed : (P R : Holdings → Type 0) → ((x : Holdings) → P x → R x)
      → (ps : List Process) (p : ℕ) (h : Holdings) → held_by ps p ≡ Some h → R (f h)
      → All P (all_holdings ps) → All R (all_holdings (changed (on_holdings f) ps p))
  all_changed P R weaker ps zero h e new all = cc
  all_changed P R weaker ps (suc i) h e new all = at ps i e all
    where
      others : (xs : List Holdings) → All P xs → All R xs
      others [] all = All-nil R
      others (x ∷ xs) all =
          All-cons R x xs (weaker x (All-head P x xs all)) (others xs (All-tail P x xs all))

      front : (o : Option Holdings) (many few : List Holdings) → (All P many → All R few)
          → All P (in_front o many) → All R (in_front o few)
      front None many few rest all = rest all
      front (Some x) many few rest all =
          All-cons R x few (weaker x (All-head P x many all)) (rest (All-tail P x many all))

      here : (o o' : Option Holdings) (rest : List Holdings) → o ≡ Some h → o' ≡ Some (f h)
          → All P (in_front o rest) → All R (in_front o' rest)
      here o o' rest e e' all =
          let before : All P (h ∷ rest) = subst (λ x. All P (in_front x rest)) e all in
          subst (λ x. All R (in_front x rest)) (sym e')
          (All-cons R (f h) rest new (others rest (All-tail P h rest before)))

      at : (ps : List Process) (i : ℕ) → option_and_then holdings_of (slice_get ps i) ≡ Some h
          → All P (all_holdings ps) → All R (all_holdings (changed_at (on_holdings f) ps i))
      at [] i e all = cc
      at (x ∷ ps) zero e all =
          here (holdings_of x) (holdings_of (on_holdings f x)) (all_holdings ps) e (has x h e) all
      at (x ∷ ps) (suc i) e all =
          front (holdings_of x) (all_holdings ps) (all_holdings (changed_at (on_holdings f) ps i))
          (at ps i e) all

  lives_same : (x : Process) → is_some (holdings_of (on_holdings f x)) ≡ is_some (holdings_of x)
  lives_same x = by_life x.life
    where
      by_life : (l : Life)
          → is_some (elim (live_changed f l) as (λ _. Option Holdings) [
            | live g ↦ Some g
            | ended status collected ↦ None
          ])
          ≡ is_some (elim l as (λ _. Option Holdings) [
            | live g ↦ Some g
            | ended status collected ↦ None
          ])
      by_life (live g) = refl
      by_life (ended status collected) = refl

  -- the same live
  pub live_changed_same : (ps : List Process) (p q : ℕ)
      → is_some (held_by (changed (on_holdings f) ps p) q) ≡ is_some (held_by ps q)
  live_changed_same ps zero q = refl
  live_changed_same ps (suc i) zero = refl
  live_changed_same ps (suc i) (suc j) = at ps i j
    where
      at : (ps : List Process) (i j : ℕ)
          → is_some (option_and_then holdings_of (slice_get (changed_at (on_holdings f) ps i) j))
          ≡ is_some (option_and_then holdings_of (slice_get ps j))
      at [] i j = refl
      at (x ∷ ps) zero zero = lives_same x
      at (x ∷ ps) zero (suc j) = refl
      at (x ∷ ps) (suc i) zero = refl
      at (x ∷ ps) (suc i) (suc j) = at ps i j

  -- as many live
  pub count_changed : (ps : List Process) (p : ℕ)
      → length (all_holdings (changed (on_holdings f) ps p)) ≡ length (all_holdings ps)
  count_changed ps zero = refl
  count_changed ps (suc i) = at ps i
    where
      front : (o o' : Option Holdings) (few many : List Holdings) → is_some o ≡ is_some o'
          → length few ≡ length many → length (in_front o few) ≡ length (in_front o' many)
      front None None few many e same = same
      front None (Some y) few many e same = cc
      front (Some x) None few many e same = cc
      front (Some x) (Some y) few many e same = ap suc same

      at : (ps : List Process) (i : ℕ)
          → length (all_holdings (changed_at (on_holdings f) ps i)) ≡ length (all_holdings ps)
      at [] i = refl
      at (x ∷ ps) zero =
          front (holdings_of (on_holdings f x)) (holdings_of x) (all_holdings ps) (all_holdings ps)
          (lives_same x) refl
      at (x ∷ ps) (suc i) =
          front (holdings_of x) (holdings_of x) (all_holdings (changed_at (on_holdings f) ps i))
          (all_holdings ps) refl (at ps i)

  -- parents and statuses stay
  pub parents_changed : (ps : List Process) (p : ℕ)
      → ((q : ℕ) → IfSome (numbered ps q) (λ process. process.parent < q)) → (q : ℕ)
      → IfSome (numbered (changed (on_holdings f) ps p) q) (λ process. process.parent < q)
  parents_changed ps zero all q = all q
  parents_changed ps (suc i) all zero = tt
  parents_changed ps (suc i) all (suc j) = at (suc j) ps i j (all (suc j))
    where
      at : (n : ℕ) (ps : List Process) (i j : ℕ)
          → IfSome (slice_get ps j) (λ process. process.parent < n)
          → IfSome (slice_get (changed_at (on_holdings f) ps i) j) (λ process. process.parent < n)
      at n [] i j h = h
      at n (x ∷ ps) zero zero h = h
      at n (x ∷ ps) zero (suc j) h = h
      at n (x ∷ ps) (suc i) zero h = h
      at n (x ∷ ps) (suc i) (suc j) h = at n ps i j h

  pub statuses_changed : (ps : List Process) (p : ℕ) → All HasStatus ps
      → All HasStatus (changed (on_holdings f) ps p)
  statuses_changed ps zero all = all
  statuses_changed ps (suc i) all = at ps i all
    where
      status_same : (l : Life)
          → elim (live_changed f l) as (λ _. ℕ) [ live h ↦ 0 | ended status collected ↦ status ]
          ≡ elim l as (λ _. ℕ) [ live h ↦ 0 | ended status collected ↦ status ]
      status_same (live h) = refl
      status_same (ended status collected) = refl

      at : (ps : List Process) (i : ℕ) → All HasStatus ps
          → All HasStatus (changed_at (on_holdings f) ps i)
      at [] i all = all
      at (x ∷ ps) zero all =
          let was : status_of x < 256 = All-head HasStatus x ps all in
          All-cons HasStatus (on_holdings f x) ps (omega (arith, status_same x.life, was))
          (All-tail HasStatus x ps all)
      at (x ∷ ps) (suc i) all =
          All-cons HasStatus x (changed_at (on_holdings f) ps i) (All-head HasStatus x ps all)
          (at ps i (All-tail HasStatus x ps all))
