-- The test of the parts tells exactly whether they agree.
use Rattle.std.proofs.Common.{◌≡◌, ◌≢◌, ℕ, zero, suc, ◌+◌, ◌<◌, ◌≤◌, Bool, true, false, cond}
use Rattle.std.proofs.Common.{◌||◌, List, [], ◌∷◌, length, map, refl, sym, ap, subst, ◌∙◌}
use Rattle.std.proofs.Common.{arith}
use Rattle.std.proofs.Common.{Some, option_and_then, min}
use Rattle.std.specs.Prelude.{All, IfSome, IsTrue, ◌==◌, nat_le, filter, is_some}
use Rattle.std.specs.Prelude.{replicate, slice_get, slice_index, count_by}
use Rattle.std.specs.List.{list_all, list_any}
use Rattle.std.proofs.lemmas.Bool.{and_parts, leb-true, le-leb, eqb-true}
use Rattle.std.proofs.lemmas.Bool.Decides.{nat_tests}
use Rattle.std.proofs.lemmas.List.{length-map, length-replicate}
use Rattle.std.proofs.lemmas.List.Elements.{All-nil, All-cons, All-head, All-tail}
use Rattle.dos_world.specs.Numbered.{numbered}
use Rattle.dos_world.specs.World.{World, Thread, Sleeper, holdings_of, live_process}
use Rattle.dos_world.specs.World.{thread_at, threads_of, belongs_to}
use Rattle.dos_world.specs.Counts.{uses_of}
use Rattle.dos_world.specs.Lawful.{turns_asleep}
use Rattle.dos_world.specs.declared.Owner.{Owner}
use Rattle.group_text.specs.declared.records.ProcessRecord.{ProcessRecord}
use Rattle.group_text.specs.declared.records.ThreadRecord.{ThreadRecord}
use Rattle.group_text.specs.Records.{process_of_record as process_of, thread_of_record as thread_of}
use Rattle.group_text.specs.Records.{sleeper_of_record as sleeper_of}
use Rattle.proc_table.specs.Spread.{spread, live_in as live_thread, AreRising}
use Rattle.proc_table.proofs.Spread.{spread_at, spread_length, numbers_spread}
use Rattle.group_text.specs.declared.records.SleeperRecord.{SleeperRecord}
use Rattle.lawful_groups.specs.Counts.{HaveFrames, counted_all, most}
use Rattle.lawful_groups.specs.Apart.{are_all_apart}
use Rattle.lawful_groups.specs.Agreeing.{PartsAgree, agree_test, world_of_parts, living_processes}
use Rattle.lawful_groups.specs.Agreeing.{parents_below, all_populated, lives_in, sleeps_once_in}
use Rattle.lawful_groups.specs.Agreeing.{is_thread_in, frees_match, are_alone, pipes_match}
use Rattle.lawful_groups.specs.Agreeing.{has_thread_in, has_end_of}
use Rattle.lawful_groups.proofs.CountLaws.{all_at, all_length}
use Rattle.lawful_groups.proofs.ApartLaws.{all_apart_yes, all_apart_no}
use Rattle.lawful_groups.proofs.FrameLaws.{AreUses, free_yes, free_no, private_yes, private_no}
use Rattle.lawful_groups.proofs.FrameLaws.{count-cons}
use Rattle.lawful_groups.proofs.ThreadLaws.{all_in_yes, all_in_no, asleep_yes, asleep_no}
use Rattle.lawful_groups.proofs.ThreadLaws.{SleepsOnce, IsKnown}
use Rattle.lawful_groups.proofs.ProcessLaws.{live_counted, parents_yes, parents_no, populated_yes}
use Rattle.lawful_groups.proofs.ProcessLaws.{populated_no, threads_listed, ends_open, pipes_yes}
use Rattle.lawful_groups.proofs.ProcessLaws.{pipes_no}

-- ---- lists

-- a test of what an element stands for
all_mapped_yes : {A B : Type 0} (P : B → Type 0) (f : A → B) (test : A → Bool)
    → ((x : A) → test x ≡ true → P (f x)) → (xs : List A) → list_all test xs ≡ true
    → All P (map f xs)
all_mapped_yes P f test g [] h = All-nil P
all_mapped_yes P f test g (x ∷ xs) h =
    let a = and_parts (test x) (list_all test xs) h in
    All-cons P (f x) (map f xs) (g x a.0) (all_mapped_yes P f test g xs a.1)

all_mapped_no : {A B : Type 0} (P : B → Type 0) (f : A → B) (test : A → Bool)
    → ((x : A) → P (f x) → test x ≡ true) → (xs : List A) → All P (map f xs)
    → list_all test xs ≡ true
all_mapped_no P f test g [] h = refl
all_mapped_no P f test g (x ∷ xs) h =
    rw (
      g x (All-head P (f x) (map f xs) h),
      all_mapped_no P f test g xs (All-tail P (f x) (map f xs) h),
    ) refl

any_mapped : {A B : Type 0} (test : B → Bool) (f : A → B) (xs : List A)
    → list_any test (map f xs) ≡ list_any (λ x. test (f x)) xs
any_mapped test f [] = refl
any_mapped test f (x ∷ xs) = ap (λ b. test (f x) || b) (any_mapped test f xs)

count_mapped : {A B : Type 0} (test : B → Bool) (f : A → B) (xs : List A)
    → count_by test (map f xs) ≡ count_by (λ x. test (f x)) xs
count_mapped test f [] = refl
count_mapped test f (x ∷ xs) =
    count-cons test (f x) (map f xs) ∙ ap (λ n. cond (test (f x)) 1 0 + n) (count_mapped test f xs)
    ∙ sym (count-cons (λ y. test (f y)) x xs)

-- ---- all of it

module _ (owners : List Owner) (uses : List ℕ) (rs : List ProcessRecord) (given : ℕ)
    (ts : List ThreadRecord) (pipes : List (List ℕ)) (ss : List SleeperRecord)
    (frames : All (HaveFrames (length owners)) rs)
    (uses_are : uses ≡ counted_all (replicate (length owners) 0) rs)
    (rising : AreRising 1 (given + 1) (map thread_of ts)) where
  abbrev w : World
  w = world_of_parts owners rs given ts pipes ss

  abbrev live : List (ℕ × Thread)
  live = map thread_of ts

  -- ---- counts and marks

  abbrev zeros_of : List ℕ
  zeros_of = replicate (length owners) 0

  zeros_length : length zeros_of ≡ length owners
  zeros_length = length-replicate {A = ℕ} (length owners) 0

  no_use : (f : ℕ) → slice_index zeros_of f ≡ 0
  no_use f = zeros (length owners) f
    where
      zeros : (n f : ℕ) → slice_index (replicate n 0) f ≡ 0
      zeros zero f = refl
      zeros (suc n) zero = refl
      zeros (suc n) (suc f) = zeros n f

  frames_too : All (HaveFrames (length zeros_of)) rs
  frames_too = subst (λ n. All (HaveFrames n) rs) (sym zeros_length) frames

  are_uses : AreUses w uses
  are_uses f lt =
      let zero_there = no_use f in
      ap (λ (u : List ℕ). slice_index u f) uses_are
      ∙ all_at zeros_of rs f (omega (arith, zero_there)) frames_too
      ∙ ap (λ n. min n most)
      (let z : slice_index zeros_of f + uses_of w f ≡ uses_of w f = omega (arith, zero_there) in z)

  uses_length : length owners ≡ length uses
  uses_length = sym (ap length uses_are ∙ all_length zeros_of rs ∙ zeros_length)

  below : (f : ℕ) → slice_index zeros_of f < 1
  below f = let z = no_use f in omega (arith, z)

  -- ---- threads

  thread_is : (t : ℕ) → thread_at w t ≡ live_thread live t
  thread_is t = spread_at live given t rising

  threads_are : (p : ℕ) → threads_of w p
      ≡ map (λ e. e.0) (filter (λ e. belongs_to p (Some e.1)) live)
  threads_are p = numbers_spread (belongs_to p) live given refl rising

  abbrev Lives : ℕ → Thread → Type 0
  Lives t thread = IsTrue (is_some (live_process w thread.process))

  -- ---- the test passes where they agree, and only there

  once_is : (t : ThreadRecord) → sleeps_once_in ss t ≡ true
      → SleepsOnce (map sleeper_of ss) t.tid (thread_of t).1
  once_is t h = count_mapped (λ (s : Sleeper). s.thread == t.tid) sleeper_of ss
      ∙ eqb-true (count_by (λ s. s.tid == t.tid) ss) (turns_asleep (Some (thread_of t).1)) h

  is_once : (t : ThreadRecord) → SleepsOnce (map sleeper_of ss) t.tid (thread_of t).1
      → sleeps_once_in ss t ≡ true
  is_once t h =
      let e : count_by (λ s. s.tid == t.tid) ss ≡ turns_asleep (Some (thread_of t).1) =
      sym (count_mapped (λ (s : Sleeper). s.thread == t.tid) sleeper_of ss) ∙ h in
      same_passes (count_by (λ s. s.tid == t.tid) ss) (turns_asleep (Some (thread_of t).1)) e
    where
      same_passes : (a b : ℕ) → a ≡ b → (a == b) ≡ true
      same_passes a b e = grind (arith, nat_tests, e)

  known_is : (s : SleeperRecord) → is_thread_in ts s ≡ true → IsKnown live (sleeper_of s)
  known_is s h = any_mapped (λ (e : ℕ × Thread). e.0 == s.tid) thread_of ts ∙ h

  is_known : (s : SleeperRecord) → IsKnown live (sleeper_of s) → is_thread_in ts s ≡ true
  is_known s h = sym (any_mapped (λ (e : ℕ × Thread). e.0 == s.tid) thread_of ts) ∙ h

  parents_by : ((i : ℕ) → IfSome (slice_get (map process_of rs) i) (λ p. p.parent < 1 + i))
      → (p : ℕ) → IfSome (numbered (map process_of rs) p) (λ process. process.parent < p)
  parents_by each zero = tt
  parents_by each (suc i) =
      subst (λ n. IfSome (slice_get (map process_of rs) i) (λ p. p.parent < n))
      (let z : 1 + i ≡ suc i = omega arith in z) (each i)

  populated_by : ((i : ℕ) → IsTrue (is_some (option_and_then holdings_of (slice_get (map process_of
      rs) i)))
      → has_thread_in ts (1 + i) ≡ true)
      → (p : ℕ) → IsTrue (is_some (live_process w p)) → threads_of w p ≢ []
  populated_by each zero lives = absurd cc
  populated_by each (suc i) lives =
      let has : has_thread_in ts (suc i) ≡ true =
      subst (λ n. has_thread_in ts n ≡ true) (let z : 1 + i ≡ suc i = omega arith in z)
      (each i lives) in
      subst (λ (x : List ℕ). x ≢ []) (sym (threads_are (suc i)))
      ((threads_listed ts (suc i)).0 has)

  numbers_of_lists : length (map process_of rs) ≤ length (spread live given) → length rs ≤ given
  numbers_of_lists le =
      let p : length (map process_of rs) ≡ length rs = length-map rs process_of in
      let q = spread_length live given in omega (arith, p, q, le)

  lists_of_numbers : length rs ≤ given → length (map process_of rs) ≤ length (spread live given)
  lists_of_numbers le =
      let p : length (map process_of rs) ≡ length rs = length-map rs process_of in
      let q = spread_length live given in omega (arith, p, q, le)

  pub agree_yes : agree_test owners uses rs given ts pipes ss ≡ true → PartsAgree w
  agree_yes h =
      let a = and_parts (nat_le (length rs) given) _ h in
      let b = and_parts (nat_le (living_processes rs) 32) _ a.1 in
      let c = and_parts (parents_below 1 rs) _ b.1 in
      let d = and_parts (all_populated ts 1 rs) _ c.1 in
      let e = and_parts (list_all (λ t. lives_in rs t.pid) ts) _ d.1 in
      let f = and_parts (list_all (sleeps_once_in ss) ts) _ e.1 in
      let g = and_parts (list_all (is_thread_in ts) ss) _ f.1 in
      let k = and_parts (are_all_apart (replicate (length owners) 0) 1 rs) _ g.1 in
      let l = and_parts (frees_match owners uses) _ k.1 in
      let m = and_parts (list_all (are_alone uses) rs) (pipes_match rs 0 pipes) l.1 in
      let few = leb-true (living_processes rs) 32 b.0 in
      let numbers = leb-true (length rs) given a.0 in
      record {
        free = free_yes w uses uses_length are_uses l.0;
        apart = all_apart_yes zeros_of 1 rs frames_too below k.0;
        private = private_yes w uses are_uses rs frames m.0;
        populated = populated_by (λ i lives. populated_yes ts 1 rs d.0 i lives);
        parents = parents_by (parents_yes 1 rs c.0);
        numbers = lists_of_numbers numbers;
        living = λ t. subst (λ o. IfSome o (Lives t)) (sym (thread_is t))
            (all_in_yes Lives live
            (all_mapped_yes (λ (x : ℕ × Thread). Lives x.0 x.1) thread_of
            (λ t. lives_in rs t.pid) (λ x y. y) ts e.0) t);
        asleep = λ t. asleep_yes live (map sleeper_of ss)
            (all_mapped_yes (λ (x : ℕ × Thread). SleepsOnce (map sleeper_of ss) x.0 x.1) thread_of
            (sleeps_once_in ss) once_is ts f.0)
            (all_mapped_yes (IsKnown live) sleeper_of (is_thread_in ts) known_is ss g.0) t
            ∙ ap turns_asleep (sym (thread_is t));
        closed = λ pipe shut. pipes_yes rs 0 pipes m.1 pipe
            (subst (λ n. list_any (has_end_of n) rs ≡ false)
            (let z : pipe ≡ 0 + pipe = omega arith in z) (ends_open pipe rs ∙ shut));
        few = rw (sym (live_counted rs)) few;
      }

  pub agree_no : PartsAgree w → agree_test owners uses rs given ts pipes ss ≡ true
  agree_no all =
      let asleep = asleep_no 1 (given + 1) live (map sleeper_of ss) rising
      (λ t. all.asleep t ∙ ap turns_asleep (thread_is t)) in
      let a : nat_le (length rs) given ≡ true =
      le-leb (length rs) given (numbers_of_lists all.numbers) in
      let b : nat_le (living_processes rs) 32 ≡ true =
      le-leb (living_processes rs) 32 (rw (live_counted rs) all.few) in
      let c = parents_no 1 rs (λ i.
      subst (λ n. IfSome (slice_get (map process_of rs) i) (λ p. p.parent < n))
      (let z : suc i ≡ 1 + i = omega arith in z) (all.parents (suc i))) in
      let d = populated_no ts 1 rs (λ i lives.
      subst (λ n. has_thread_in ts n ≡ true) (let z : suc i ≡ 1 + i = omega arith in z)
      ((threads_listed ts (suc i)).1
      (subst (λ (x : List ℕ). x ≢ []) (threads_are (suc i)) (all.populated (suc i) lives)))) in
      let e = all_mapped_no (λ (x : ℕ × Thread). Lives x.0 x.1) thread_of
      (λ t. lives_in rs t.pid) (λ x y. y) ts
      (all_in_no Lives 1 (given + 1) live rising
      (λ t. subst (λ o. IfSome o (Lives t)) (thread_is t) (all.living t))) in
      let f = all_mapped_no (λ (x : ℕ × Thread). SleepsOnce (map sleeper_of ss) x.0 x.1) thread_of
      (sleeps_once_in ss) is_once ts asleep.0 in
      let g = all_mapped_no (IsKnown live) sleeper_of (is_thread_in ts) is_known ss asleep.1 in
      let k = all_apart_no zeros_of 1 rs frames_too below all.apart in
      let l = free_no w uses uses_length are_uses all.free in
      let m = private_no w uses are_uses rs frames all.private in
      let n = pipes_no rs 0 pipes (λ pipe shut. all.closed pipe (sym (ends_open pipe rs)
      ∙ subst (λ n. list_any (has_end_of n) rs ≡ false)
      (let z : 0 + pipe ≡ pipe = omega arith in z) shut)) in
      rw (a, b, c, d, e, f, g, k, l, m, n) refl
