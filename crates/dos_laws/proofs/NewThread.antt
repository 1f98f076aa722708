-- A thread more keeps a world lawful.
use Rattle.std.proofs.Common.{ℕ, zero, suc, ◌+◌, ◌<◌, ◌≤◌, ◌≡◌, ◌≢◌, refl, Bool, true, false, cond}
use Rattle.std.proofs.Common.{List, [], ◌∷◌, ◌++◌, length, Option, Some, None}
use Rattle.std.proofs.Common.{arith, length-append}
use Rattle.std.specs.Prelude.{IfSome, slice_get, is_some, nat_le}
use Rattle.std.proofs.lemmas.Bool.{or_parts, leb-false}
use Rattle.dos_world.specs.Numbered.{numbered, places_from, numbers_of}
use Rattle.dos_world.specs.World.{World, Thread, flat, belongs_to}
use Rattle.dos_world.specs.ThreadCalls.{with_new_thread, are_threads_full}
use Rattle.dos_world.specs.Lawful.{Lawful, IsThread, turns_asleep}
use Rattle.dos_laws.proofs.Threads.{lawful-with_threads}

-- ---- an element more

-- What holds of each and of the new one holds of each afterwards.
pub each_more : {A : Type 0} (P : A → Type 0) (xs : List (Option A)) (y : Option A)
    → ((t : ℕ) → IfSome (flat (numbered xs t)) P) → IfSome y P → (t : ℕ)
    → IfSome (flat (numbered (xs ++ y ∷ []) t)) P
each_more P xs y all new zero = tt
each_more {A} P xs y all new (suc i) = at xs i (λ k. all (suc k))
  where
    at : (xs : List (Option A)) (i : ℕ) → ((k : ℕ) → IfSome (flat (slice_get xs k)) P)
        → IfSome (flat (slice_get (xs ++ y ∷ []) i)) P
    at [] zero all = new
    at [] (suc i) all = tt
    at (x ∷ xs) zero all = all 0
    at (x ∷ xs) (suc i) all = at xs i (λ k. all (suc k))

-- What is seen of each stays, where of the new one no more is seen than of none.
pub seen_more : {A B : Type 0} (seen : Option A → B) (xs : List (Option A)) (y : Option A)
    → seen y ≡ seen None → (t : ℕ)
    → seen (flat (numbered (xs ++ y ∷ []) t)) ≡ seen (flat (numbered xs t))
seen_more seen xs y new zero = refl
seen_more {A} seen xs y new (suc i) = at xs i
  where
    at : (xs : List (Option A)) (i : ℕ)
        → seen (flat (slice_get (xs ++ y ∷ []) i)) ≡ seen (flat (slice_get xs i))
    at [] zero = new
    at [] (suc i) = refl
    at (x ∷ xs) zero = refl
    at (x ∷ xs) (suc i) = at xs i

put_first : (b : Bool) (n : ℕ) (few many : List ℕ) → (cond b (n ∷ few) few ≢ [])
    → (few ≢ [] → many ≢ []) → cond b (n ∷ many) many ≢ []
put_first true n few many some rest e = cc
put_first false n few many some rest e = rest some e

-- Who passed a test passes.
pub some_pass : {A : Type 0} (test : A → Bool) (n : ℕ) (xs : List A) (y : A)
    → places_from n test xs ≢ [] → places_from n test (xs ++ y ∷ []) ≢ []
some_pass test n [] y some e = some refl
some_pass test n (x ∷ xs) y some e =
    put_first (test x) n (places_from (suc n) test xs) (places_from (suc n) test (xs ++ y ∷ []))
    some (some_pass test (suc n) xs y) e

put_count : (b : Bool) (n : ℕ) (few many : List ℕ) → length many ≤ suc (length few)
    → length (cond b (n ∷ many) many) ≤ suc (length (cond b (n ∷ few) few))
put_count true n few many h = omega arith
put_count false n few many h = omega arith

-- At most one more passes.
pub one_more : {A : Type 0} (test : A → Bool) (n : ℕ) (xs : List A) (y : A)
    → length (places_from n test (xs ++ y ∷ [])) ≤ suc (length (places_from n test xs))
one_more test n [] y = at_most_one (test y)
  where
    at_most_one : (b : Bool) → length (cond b (n ∷ []) []) ≤ 1
    at_most_one true = omega arith
    at_most_one false = omega arith
one_more test n (x ∷ xs) y =
    put_count (test x) n (places_from (suc n) test xs) (places_from (suc n) test (xs ++ y ∷ []))
    (one_more test (suc n) xs y)

-- ---- a thread more

module _ (w : World) (thread : Thread) where
  abbrev threads_after : List (Option Thread)
  threads_after = w.threads ++ Some thread ∷ []

  -- Where threads aren't full, one in range that isn't asleep may be added.
  pub lawful-with_new_thread : are_threads_full w.threads ≡ false → IsThread w.processes thread
      → turns_asleep (Some thread) ≡ 0 → Lawful w → Lawful (with_new_thread w thread)
  lawful-with_new_thread room is awake l =
      let fewer =
      or_parts (nat_le 64 (length (numbers_of is_some w.threads))) (nat_le 65535 (length w.threads))
      room in
      let live : length (numbers_of is_some w.threads) < 64 =
      leb-false 64 (length (numbers_of is_some w.threads)) fewer.0 in
      let given : length w.threads < 65535 = leb-false 65535 (length w.threads) fewer.1 in
      let longer : length threads_after ≡ length w.threads + 1 =
      length-append w.threads (Some thread ∷ []) in
      lawful-with_threads w threads_after (record {
        count = omega arith;
        populated = λ p lives.
            some_pass (belongs_to p) 1 w.threads (Some thread) (l.processes.populated p lives);
        ranges = each_more (IsThread w.processes) w.threads (Some thread) l.threads.ranges is;
        asleep = seen_more turns_asleep w.threads (Some thread) awake;
        limits = (omega (arith, one_more is_some 1 w.threads (Some thread), live), omega arith);
      }) l
