-- A thread that goes, and isn't its process's last, leaves a world lawful.
use Rattle.std.proofs.Common.{ℕ, zero, suc, ◌≤◌, ◌≡◌, ◌≢◌, ◌⊎◌, inl, inr, refl, sym, ap, ◌∙◌, subst}
use Rattle.std.proofs.Common.{Bool, true, false, cond, List, [], ◌∷◌, length, Option, Some, None}
use Rattle.std.proofs.Common.{arith}
use Rattle.std.specs.Prelude.{IfSome, IsTrue, slice_get, is_some, ◌==◌}
use Rattle.std.proofs.lemmas.Bool.{cases_Bool, cases_eq, eqb-true}
use Rattle.dos_world.specs.Numbered.{numbered, changed, changed_at, places_from, numbers_of}
use Rattle.dos_world.specs.World.{World, Thread, flat, none_of, thread_at, threads_of, live_process}
use Rattle.dos_world.specs.World.{belongs_to, without_thread}
use Rattle.dos_world.specs.Lawful.{Lawful, IsThread, turns_asleep}
use Rattle.dos_world.proofs.Numbers.{changed_other}
use Rattle.dos_laws.proofs.Numbers.{length-changed}
use Rattle.dos_laws.proofs.Threads.{lawful-with_threads}

-- ---- an element that goes

-- it is none
pub gone_here : {A : Type 0} (xs : List (Option A)) (t : ℕ)
    → flat (numbered (changed none_of xs t) t) ≡ None
gone_here xs zero = refl
gone_here {A} xs (suc i) = at xs i
  where
    at : (xs : List (Option A)) (i : ℕ) → flat (slice_get (changed_at none_of xs i) i) ≡ None
    at [] i = refl
    at (x ∷ xs) zero = refl
    at (x ∷ xs) (suc i) = at xs i

-- What holds of each holds of each that is left.
pub each_left : {A : Type 0} (P : A → Type 0) (xs : List (Option A)) (t : ℕ)
    → ((s : ℕ) → IfSome (flat (numbered xs s)) P) → (s : ℕ)
    → IfSome (flat (numbered (changed none_of xs t) s)) P
each_left P xs t all s = by_number (cases_eq s t)
  where
    by_number : (s ≡ t) ⊎ (s ≡ t → ⊥) → IfSome (flat (numbered (changed none_of xs t) s)) P
    by_number (inl same) =
        subst (λ o. IfSome o P)
        (sym (ap (λ n. flat (numbered (changed none_of xs t) n)) same ∙ gone_here xs t)) tt
    by_number (inr other) =
        subst (λ o. IfSome (flat o) P) (sym (changed_other none_of xs t s other)) (all s)

-- What is seen of each stays, where of the one that goes no more is seen than of none.
seen_left : {A B : Type 0} (seen : Option A → B) (xs : List (Option A)) (t : ℕ)
    → seen (flat (numbered xs t)) ≡ seen None → (s : ℕ)
    → seen (flat (numbered (changed none_of xs t) s)) ≡ seen (flat (numbered xs s))
seen_left seen xs t unseen s = by_number (cases_eq s t)
  where
    by_number : (s ≡ t) ⊎ (s ≡ t → ⊥)
        → seen (flat (numbered (changed none_of xs t) s)) ≡ seen (flat (numbered xs s))
    by_number (inl same) =
        ap (λ n. seen (flat (numbered (changed none_of xs t) n))) same
        ∙ ap seen (gone_here xs t)
        ∙ sym unseen
        ∙ ap (λ n. seen (flat (numbered xs n))) (sym same)
    by_number (inr other) = ap (λ o. seen (flat o)) (changed_other none_of xs t s other)

-- ---- who passes a test that none passes

-- as many, or one less
abbrev IsOneLess : List ℕ → List ℕ → Type 0
IsOneLess few many = (length few ≤ length many) × (length many ≤ suc (length few))

module _ {A : Type 0} (test : Option A → Bool) (none : test None ≡ false) where
  put_less : (b : Bool) (n : ℕ) (rest : List ℕ) → IsOneLess rest (cond b (n ∷ rest) rest)
  put_less true n rest = (omega arith, omega arith)
  put_less false n rest = (omega arith, omega arith)

  put_both : (b : Bool) (n : ℕ) (few many : List ℕ) → IsOneLess few many
      → IsOneLess (cond b (n ∷ few) few) (cond b (n ∷ many) many)
  put_both true n few many h = (omega (arith, h.0), omega (arith, h.1))
  put_both false n few many h = h

  places_left : (n : ℕ) (xs : List (Option A)) (i : ℕ)
      → IsOneLess (places_from n test (changed_at none_of xs i)) (places_from n test xs)
  places_left n [] i = (omega arith, omega arith)
  places_left n (x ∷ xs) zero =
      let rest : List ℕ = places_from (suc n) test xs in
      subst (λ b. IsOneLess (cond b (n ∷ rest) rest) (places_from n test (x ∷ xs))) (sym none)
      (put_less (test x) n rest)
  places_left n (x ∷ xs) (suc i) =
      put_both (test x) n (places_from (suc n) test (changed_at none_of xs i))
      (places_from (suc n) test xs) (places_left (suc n) xs i)

  -- At most one less passes.
  one_less : (xs : List (Option A)) (t : ℕ)
      → IsOneLess (numbers_of test (changed none_of xs t)) (numbers_of test xs)
  one_less xs zero = (omega arith, omega arith)
  one_less xs (suc i) = places_left 1 xs i

  places_still : (n : ℕ) (xs : List (Option A)) (i : ℕ) → test (flat (slice_get xs i)) ≡ false
      → places_from n test (changed_at none_of xs i) ≡ places_from n test xs
  places_still n [] i e = refl
  places_still n (x ∷ xs) zero e =
      ap (λ b. cond b (n ∷ places_from (suc n) test xs) (places_from (suc n) test xs))
      (none ∙ sym e)
  places_still n (x ∷ xs) (suc i) e =
      ap (λ rest. cond (test x) (n ∷ rest) rest) (places_still (suc n) xs i e)

  -- The same pass, where the one that goes did not.
  none_less : (xs : List (Option A)) (t : ℕ) → test (flat (numbered xs t)) ≡ false
      → numbers_of test (changed none_of xs t) ≡ numbers_of test xs
  none_less xs zero e = refl
  none_less xs (suc i) e = places_still 1 xs i e

-- ---- the thread

nothing_of_it : (ns : List ℕ) → length ns ≡ 0 → ns ≡ []
nothing_of_it [] e = refl
nothing_of_it (n ∷ ns) e = absurd (omega arith)

module _ (w : World) (t : ℕ) (thread : Thread) (is : thread_at w t ≡ Some thread) where
  -- Another thread of its process lives.
  pub lawful-without_thread : length (threads_of w thread.process) ≢ 1
      → turns_asleep (Some thread) ≡ 0 → Lawful w → Lawful (without_thread w t)
  lawful-without_thread others awake l =
      lawful-with_threads w (changed none_of w.threads t) (record {
        count = omega (arith, length-changed none_of w.threads t);
        populated = λ p lives. populated p lives (cases_Bool (thread.process == p));
        ranges = each_left (IsThread w.processes) w.threads t l.threads.ranges;
        asleep = seen_left turns_asleep w.threads t (ap turns_asleep is ∙ awake);
        limits = (
          omega (arith, l.limits.threads.0, (one_less is_some refl w.threads t).0),
          omega (arith, l.limits.threads.1, length-changed none_of w.threads t),
        );
      }) l
    where
      populated : (p : ℕ) → IsTrue (is_some (live_process w p))
          → ((thread.process == p) ≡ true) ⊎ ((thread.process == p) ≡ false)
          → numbers_of (belongs_to p) (changed none_of w.threads t) ≢ []
      populated p lives (inl own) e =
          let same : thread.process ≡ p = eqb-true thread.process p own in
          let none : length (numbers_of (belongs_to p) (changed none_of w.threads t)) ≡ 0 =
          ap (λ (ns : List ℕ). length ns) e in
          let not_one : length (threads_of w p) ≢ 1 =
          subst (λ n. length (threads_of w n) ≢ 1) same others in
          let all : length (threads_of w p) ≡ 0 =
          omega (arith, not_one, none, (one_less (belongs_to p) refl w.threads t).1) in
          l.processes.populated p lives (nothing_of_it (threads_of w p) all)
      populated p lives (inr other) e =
          l.processes.populated p lives
          (sym (none_less (belongs_to p) refl w.threads t (ap (belongs_to p) is ∙ other)) ∙ e)
