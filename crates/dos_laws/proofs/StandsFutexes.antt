-- The services of sleepers keep a world standing: 11 and 12. So does the ripening of waiting
-- threads, and the ready threads may have their parts.
use Rattle.std.proofs.Common.{ℕ, suc, ◌+◌, ◌%◌, ◌<◌, ◌≡◌, ◌≢◌, refl, sym, ap, ◌∙◌, subst, Bool}
use Rattle.std.proofs.Common.{true, false, cond, not, List, [], ◌∷◌, ◌++◌, length, map, min, Option}
use Rattle.std.proofs.Common.{Some, None, option_map, arith, eq-eqb}
use Rattle.std.specs.Prelude.{IfSome, ⊤, ◌==◌, filter, slice_get, is_some}
use Rattle.std.proofs.lemmas.Bool.{ne_eqb, not-false, eqb-true, true≢false}
use Rattle.std.proofs.lemmas.List.{length-take}
use Rattle.std.proofs.lemmas.List.Elements.{All-nil, All-cons, All-append}
use Rattle.dos_world.specs.Numbered.{numbered, places_from, numbers_of}
use Rattle.dos_world.specs.World.{World, Thread, Sleeper, flat, thread_at, entry_at, ready_threads}
use Rattle.dos_world.specs.World.{is_state, in_state, with_thread}
use Rattle.dos_world.specs.Kernel.{opened}
use Rattle.dos_world.specs.Play.{done}
use Rattle.dos_world.specs.Calls.{Call, Service, waits, refuses, refuses_in}
use Rattle.dos_world.specs.FutexCalls.{futex_wait, futex_wake, at_word, by_entry, is_off_word}
use Rattle.dos_world.specs.FutexCalls.{futex_wait_at, futex_wake_at, futex_word, asleep_at}
use Rattle.dos_world.specs.FutexCalls.{all_woken, sleepers_at, sleeps_at}
use Rattle.dos_world.specs.Signals.{would_wait, made_ready, ripen}
use Rattle.dos_world.specs.Lawful.{IsSleeper, turns_asleep}
use Rattle.dos_world.specs.declared.Access.TheVariants.{Load}
use Rattle.dos_world.specs.declared.Entry.{Entry}
use Rattle.dos_world.specs.declared.ThreadState.{ThreadState}
use Rattle.dos_world.specs.declared.ThreadState.TheVariants.{Ready, Retry, Asleep}
use Rattle.dos_laws.specs.Standing.{AreApart, AreAwake, IsAwake, IsNoneOf, LawfulWith}
use Rattle.dos_laws.proofs.Mapped.{entry_taken}
use Rattle.dos_laws.proofs.Stands.{with_run, awake_but, awake-other, lawful-changed, stands-ready}
use Rattle.dos_laws.proofs.Stands.{times}
use Rattle.dos_laws.proofs.Stands.{times-push, at_changed}
use Rattle.dos_laws.proofs.StandsSignals.{stands-all_woken}
use Rattle.dos_laws.proofs.StandsCopies.{IsMoved, opened_moved, stands-opened, given}
use Rattle.dos_laws.proofs.StandsCalls.{StandsCall, Leaves, caller_awake, returns_in_stands}
use Rattle.dos_laws.proofs.StandsCalls.{refuses_stands, refuses_in_stands, leaves_if}

-- ---- a thread that falls asleep

pub stands-asleep : (ts : List ℕ) (w : World) (t frame offset : ℕ)
    → turns_asleep (thread_at w t) ≡ 0 → is_some (thread_at w t) ≡ true
    → IsSleeper (length w.owners) (record { thread = t; frame = frame; offset = offset })
    → LawfulWith (t ∷ ts) w
    → LawfulWith ts (record (with_thread w t (in_state Asleep)) {
      sleepers =
          w.sleepers ++ record { thread = t; frame = frame; offset = offset } ∷ [];
    })
stands-asleep ts w t frame offset before lives place k = record {
  lawful = lawful-changed (in_state Asleep) (λ thread. refl) w t (w.sleepers ++ s ∷ [])
      (λ thread at is. with_run w.processes thread _ _ _ is.registers is)
      others here
      (All-append (IsSleeper (length w.owners)) w.sleepers (s ∷ []) k.lawful.threads.sleepers
      (All-cons (IsSleeper (length w.owners)) s [] place (All-nil (IsSleeper (length w.owners)))))
      k.lawful;
  awake =
      awake_but w (with_thread w t (in_state Asleep)) t ts k.apart.0
      (awake-other (in_state Asleep) w t) k.awake.1;
  apart = k.apart.1;
}
  where
    s : Sleeper
    s = record { thread = t; frame = frame; offset = offset }

    others : (x : ℕ) → x ≢ t → times x (w.sleepers ++ s ∷ []) ≡ times x w.sleepers
    others x other =
        times-push x w.sleepers s
        ∙ ap (λ b. times x w.sleepers + cond {A = ℕ} b 1 0) (ne_eqb t x (λ e. other (sym e)))
        ∙ none (times x w.sleepers)
      where
        none : (n : ℕ) → n + 0 ≡ n
        none n = omega arith

    asleep : (o : Option Thread) → is_some o ≡ true
        → 1 ≡ turns_asleep (option_map (in_state Asleep) o)
    asleep None e = absurd (true≢false (sym e))
    asleep (Some thread) e = refl

    here : times t (w.sleepers ++ s ∷ []) ≡ turns_asleep
        (option_map (in_state Asleep) (thread_at w t))
    here =
        times-push t w.sleepers s
        ∙ ap (λ b. times t w.sleepers + cond {A = ℕ} b 1 0) (eq-eqb t t refl)
        ∙ ap (λ n. n + 1) (k.lawful.threads.asleep t ∙ before)
        ∙ asleep (thread_at w t) lives

module _ (ts : List ℕ) (c : Call) (call : StandsCall ts c) where
  at_word_stands : (one : Entry → Service)
      → ((e : Entry) → entry_at c.world c.thread c.a0 ≡ Some e → c.a0 % 4 ≡ 0
      → Leaves ts c call (one e c))
      → Leaves ts c call (at_word one c)
  at_word_stands one each =
      leaves_if ts c call (is_off_word c) (refuses 22 c)
      (by_entry one (entry_at c.world c.thread c.a0) c)
      (λ off. refuses_stands ts c call 22 (omega arith))
      (λ even. entry_stands (eqb-true (c.a0 % 4) 0 (not-false (c.a0 % 4 == 0) even))
      (entry_at c.world c.thread c.a0) refl)
    where
      entry_stands : c.a0 % 4 ≡ 0 → (o : Option Entry) → entry_at c.world c.thread c.a0 ≡ o
          → Leaves ts c call (by_entry one o c)
      entry_stands even None is = refuses_stands ts c call 14 (omega arith)
      entry_stands even (Some e) is = each e is even

  pub futex_wait_stands : Leaves ts c call (futex_wait c)
  futex_wait_stands = at_word_stands futex_wait_at waiting
    where
      w : World
      w = opened c.world c.thread c.a0 Load

      moved : IsMoved c.world w
      moved = opened_moved c.world c.thread c.a0 Load

      stands : LawfulWith (c.thread ∷ ts) w
      stands =
          stands-opened (c.thread ∷ ts) c.world c.thread c.a0 Load (given ts c call) call.stands

      waiting : (e : Entry) → entry_at c.world c.thread c.a0 ≡ Some e → c.a0 % 4 ≡ 0
          → Leaves ts c call (futex_wait_at e c)
      waiting e is even =
          leaves_if ts c call (futex_word e c == c.a1) (done (waits (asleep_at w e c)))
          (refuses_in w 11 c)
          (λ same. stands-asleep ts w c.thread e.frame (c.a0 % 4096)
          (subst (λ u. turns_asleep (thread_at u c.thread) ≡ 0) (sym moved)
          (ap turns_asleep call.is ∙ caller_awake ts c call))
          (subst (λ u. is_some (thread_at u c.thread) ≡ true) (sym moved) (ap is_some call.is)) (
            (entry_taken w c.thread c.a0 e stands.lawful
                (subst (λ u. entry_at u c.thread c.a0 ≡ Some e) (sym moved) is)).within,
            omega (arith, even),
            omega arith,
          )
          stands)
          (λ differs. refuses_in_stands ts c call w 11 (omega arith) stands)

  pub futex_wake_stands : Leaves ts c call (futex_wake c)
  futex_wake_stands = at_word_stands futex_wake_at (λ e is even.
      let count : length (sleepers_at e c)
      ≡ min c.a1 (length (map (λ s. s.thread) (filter (sleeps_at e c.a0) c.world.sleepers))) =
      length-take c.a1 (map (λ s. s.thread) (filter (sleeps_at e c.a0) c.world.sleepers)) in
      returns_in_stands ts c call (all_woken c.world (sleepers_at e c)) (length (sleepers_at e c))
      (omega (arith, count, call.second))
      (stands-all_woken (c.thread ∷ ts) c.world (sleepers_at e c) call.stands))

-- ---- the numbers of those that pass

abbrev pub Each : (ℕ → Type 0) → List ℕ → Type 0
Each P [] = ⊤
Each P (x ∷ xs) = P x × Each P xs

module _ (test : Option Thread → Bool) (P : ℕ → Type 0) where
  each_place : (n : ℕ) (xs : List (Option Thread))
      → ((k : ℕ) (x : Option Thread) → slice_get xs k ≡ Some x → test x ≡ true → P (n + k))
      → Each P (places_from n test xs)
  each_place n [] h = tt
  each_place n (x ∷ xs) h =
      by_test (test x) refl
      (each_place (suc n) xs
      (λ k y e t. let same : n + suc k ≡ suc n + k = omega arith in subst P same (h (suc k) y e t)))
    where
      by_test : (b : Bool) → test x ≡ b → Each P (places_from (suc n) test xs)
          → Each P (cond b (n ∷ places_from (suc n) test xs) (places_from (suc n) test xs))
      by_test true is rest =
          (let same : n + 0 ≡ n = omega arith in subst P same (h 0 x refl is), rest)
      by_test false is rest = rest

  pub each_number : (xs : List (Option Thread))
      → ((t : ℕ) → test (flat (numbered xs t)) ≡ true → P t) → Each P (numbers_of test xs)
  each_number xs h =
      each_place 1 xs
      (λ k x e t. let same : 1 + k ≡ suc k = omega arith in
      h (1 + k)
      (subst (λ m. test (flat (numbered xs m)) ≡ true) (sym same)
      (ap (λ o. test (flat o)) e ∙ t)))

-- they are apart
places_apart : (test : Option Thread → Bool) (n : ℕ) (xs : List (Option Thread))
    → AreApart (places_from n test xs)
places_apart test n [] = tt
places_apart test n (x ∷ xs) = by_test (test x) (places_apart test (suc n) xs)
  where
    above : (m : ℕ) → n < m → (ys : List (Option Thread)) → IsNoneOf n (places_from m test ys)
    above m lt [] = tt
    above m lt (y ∷ ys) = by_first (test y) (above (suc m) (omega arith) ys)
      where
        by_first : (b : Bool) → IsNoneOf n (places_from (suc m) test ys)
            → IsNoneOf n (cond b (m ∷ places_from (suc m) test ys) (places_from (suc m) test ys))
        by_first true rest = (λ e. absurd (omega arith), rest)
        by_first false rest = rest

    by_test : (b : Bool) → AreApart (places_from (suc n) test xs)
        → AreApart (cond b (n ∷ places_from (suc n) test xs) (places_from (suc n) test xs))
    by_test true rest = (above (suc n) (omega arith) xs, rest)
    by_test false rest = rest

-- ---- who begins

pub stands-begins : (w : World) → LawfulWith [] w → LawfulWith (ready_threads w) w
stands-begins w k = record {
  lawful = k.lawful;
  awake =
      awake_of (ready_threads w)
      (each_number (is_state Ready) (IsAwake w) w.threads (λ t e. ready (thread_at w t) e));
  apart = places_apart (is_state Ready) 1 w.threads;
}
  where
    is_ready : (s : ThreadState) → (thread : Thread)
        → is_state Ready (Some (record thread { state = s })) ≡ true → s ≡ Ready
    is_ready Ready thread e = refl
    is_ready Retry thread e = absurd (true≢false (sym e))
    is_ready Asleep thread e = absurd (true≢false (sym e))

    ready : (o : Option Thread) → is_state Ready o ≡ true
        → IfSome o (λ thread. thread.state ≡ Ready)
    ready None e = tt
    ready (Some thread) e = is_ready thread.state thread e

    awake_of : (ts : List ℕ) → Each (IsAwake w) ts → AreAwake w ts
    awake_of [] each = tt
    awake_of (t ∷ ts) each = (each.0, awake_of ts each.1)

-- ---- who ripens

-- The thread doesn't sleep.
abbrev IsUp : World → ℕ → Type 0
IsUp w t = turns_asleep (thread_at w t) ≡ 0

up_filtered : (w : World) (test : ℕ → Bool) (ts : List ℕ) → Each (IsUp w) ts
    → Each (IsUp w) (filter test ts)
up_filtered w test [] each = tt
up_filtered w test (t ∷ ts) each = by_test (test t) (up_filtered w test ts each.1)
  where
    by_test : (b : Bool) → Each (IsUp w) (filter test ts)
        → Each (IsUp w) (cond b (t ∷ filter test ts) (filter test ts))
    by_test true rest = (each.0, rest)
    by_test false rest = rest

up_after : (w : World) (t : ℕ) (ts : List ℕ) → Each (IsUp w) ts
    → Each (IsUp (with_thread w t (in_state Ready))) ts
up_after w t [] each = tt
up_after w t (s ∷ ts) each = (
  at_changed (λ o. turns_asleep o ≡ 0) (in_state Ready) w.threads t s (λ other. each.0)
      (λ same. up (thread_at w t)),
  up_after w t ts each.1,
)
  where
    up : (o : Option Thread) → turns_asleep (option_map (in_state Ready) o) ≡ 0
    up None = refl
    up (Some thread) = refl

made_ready_stands : (us : List ℕ) (w : World) (ts : List ℕ) → Each (IsUp w) ts → LawfulWith us w
    → LawfulWith us (made_ready w ts)
made_ready_stands us w [] each k = k
made_ready_stands us w (t ∷ ts) each k =
    made_ready_stands us (with_thread w t (in_state Ready)) ts (up_after w t ts each.1)
    (stands-ready us w t each.0 k)

pub stands-ripen : (us : List ℕ) (w : World) → LawfulWith us w → LawfulWith us (ripen w)
stands-ripen us w k =
    made_ready_stands us w
    (filter (λ t. not (would_wait w t)) (numbers_of (is_state Retry) w.threads))
    (up_filtered w (λ t. not (would_wait w t)) (numbers_of (is_state Retry) w.threads)
    (each_number (is_state Retry) (IsUp w) w.threads (λ t e. up (thread_at w t) e))) k
  where
    is_up : (s : ThreadState) → (thread : Thread)
        → is_state Retry (Some (record thread { state = s })) ≡ true
        → turns_asleep (Some (record thread { state = s })) ≡ 0
    is_up Ready thread e = refl
    is_up Retry thread e = refl
    is_up Asleep thread e = absurd (true≢false (sym e))

    up : (o : Option Thread) → is_state Retry o ≡ true → turns_asleep o ≡ 0
    up None e = refl
    up (Some thread) e = is_up thread.state thread e
