-- The end of a process and of a thread keeps a world standing.
use Rattle.std.proofs.Common.{ℕ, zero, suc, ◌+◌, ◌<◌, ◌≡◌, ◌≢◌, ◌⊎◌, inl, inr, refl, sym, ap}
use Rattle.std.proofs.Common.{◌∙◌, subst, Bool, true, false, cond, not, List, [], ◌∷◌, length}
use Rattle.std.proofs.Common.{Option, Some, None, option_map, arith, eq-eqb}
use Rattle.std.specs.Prelude.{All, IfSome, IsTrue, ◌==◌, ◌||◌, is_some, slice_get}
use Rattle.std.specs.Prelude.{count_by, filter}
use Rattle.std.specs.List.{list_any}
use Rattle.std.proofs.lemmas.Bool.{cases_eq, true≢false, false≢true, ne_eqb, cond_both, eqb-false}
use Rattle.std.proofs.lemmas.List.{length-map}
use Rattle.std.proofs.lemmas.Option.{slice_get-map}
use Rattle.dos_world.specs.Numbered.{numbered, changed, changed_at, places_from, numbers_of}
use Rattle.dos_world.specs.World.{World, Process, Thread, Sleeper, flat, all_holdings, live_process}
use Rattle.dos_world.specs.World.{thread_at, threads_of, belongs_to, parent_of, none_of}
use Rattle.dos_world.specs.World.{without_thread, is_child}
use Rattle.dos_world.specs.Kernel.{unless_of, process_ended, thread_ended, orphaned, ended_by}
use Rattle.dos_world.specs.Kernel.{is_none_of_these}
use Rattle.dos_world.specs.Counts.{maps_frame, tidied}
use Rattle.dos_world.specs.Lawful.{Lawful, IsThread, AreHoldings, IsAlone, IsSleeper, turns_asleep}
use Rattle.dos_world.specs.declared.ThreadState.TheVariants.{Ready}
use Rattle.dos_world.proofs.Numbers.{changed_other}
use Rattle.dos_laws.specs.Standing.{IsAwake, LawfulWith}
use Rattle.dos_laws.specs.Ends.{ended_processes, without_process}
use Rattle.dos_laws.proofs.Numbers.{mapped_at}
use Rattle.dos_laws.proofs.Parts.{part_all, part_length, part_any, part_sum}
use Rattle.dos_laws.proofs.EndedProcesses.{statuses_new, ended_part, ended_length, others_live}
use Rattle.dos_laws.proofs.EndedProcesses.{ended_dead}
use Rattle.dos_laws.proofs.Ends.{places_mapped, places_fewer, left_is, left_belongs, left_each}
use Rattle.dos_laws.proofs.Fewer.{alone_fewer}
use Rattle.dos_laws.proofs.ThreadGone.{lawful-without_thread, gone_here}
use Rattle.dos_laws.proofs.Stands.{awake_by, times, times-cons}
use Rattle.dos_laws.proofs.StandsSignals.{stands-posted, all-filtered}
use Rattle.dos_laws.proofs.StandsTidy.{IsLess, lawful-tidied}

-- ---- who is among the numbers of those that pass

module _ (test : Option Thread → Bool) (none : test None ≡ false) where
  not_below : (m n : ℕ) → m < n → (xs : List (Option Thread))
      → list_any (λ u. u == m) (places_from n test xs) ≡ false
  not_below m n lt [] = refl
  not_below m n lt (x ∷ xs) = by_test (test x) (not_below m (suc n) (omega arith) xs)
    where
      by_test : (b : Bool) → list_any (λ u. u == m) (places_from (suc n) test xs) ≡ false
          → list_any (λ u. u == m)
          (cond b (n ∷ places_from (suc n) test xs) (places_from (suc n) test xs)) ≡ false
      by_test true rest =
          ap (λ b. b || list_any (λ u. u == m) (places_from (suc n) test xs))
          (ne_eqb n m (λ e. absurd (omega arith)))
          ∙ rest
      by_test false rest = rest

  at_place : (n k : ℕ) (xs : List (Option Thread))
      → list_any (λ u. u == n + k) (places_from n test xs) ≡ test (flat (slice_get xs k))
  at_place n k [] = sym none
  at_place n zero (x ∷ xs) = by_test (test x) refl (not_below (n + 0) (suc n) (omega arith) xs)
    where
      by_test : (b : Bool) → test x ≡ b
          → list_any (λ u. u == n + 0) (places_from (suc n) test xs) ≡ false
          → list_any (λ u. u == n + 0)
          (cond b (n ∷ places_from (suc n) test xs) (places_from (suc n) test xs)) ≡ test x
      by_test true e rest =
          ap (λ b. b || list_any (λ u. u == n + 0) (places_from (suc n) test xs))
          (eq-eqb n (n + 0) (omega arith))
          ∙ sym e
      by_test false e rest = rest ∙ sym e
  at_place n (suc k) (x ∷ xs) = by_test (test x) (at_place (suc n) k xs)
    where
      same : suc n + k ≡ n + suc k
      same = omega arith

      by_test : (b : Bool)
          → list_any (λ u. u == suc n + k) (places_from (suc n) test xs)
          ≡ test (flat (slice_get xs k))
          → list_any (λ u. u == n + suc k)
          (cond b (n ∷ places_from (suc n) test xs) (places_from (suc n) test xs))
          ≡ test (flat (slice_get xs k))
      by_test true rest =
          ap (λ b. b || list_any (λ u. u == n + suc k) (places_from (suc n) test xs))
          (ne_eqb n (n + suc k) (λ e. absurd (omega arith)))
          ∙ ap (λ m. list_any (λ u. u == m) (places_from (suc n) test xs)) (sym same)
          ∙ rest
      by_test false rest =
          ap (λ m. list_any (λ u. u == m) (places_from (suc n) test xs)) (sym same) ∙ rest

  pub among : (xs : List (Option Thread)) (t : ℕ)
      → list_any (λ u. u == t) (numbers_of test xs) ≡ test (flat (numbered xs t))
  among xs zero = not_below 0 1 (omega arith) xs ∙ sym none
  among xs (suc i) =
      let same : 1 + i ≡ suc i = omega arith in
      subst (λ m. list_any (λ u. u == m) (places_from 1 test xs) ≡ test (flat (slice_get xs i)))
      same (at_place 1 i xs)

-- ---- the queue without these

times-left : (us : List ℕ) (t : ℕ) (ss : List Sleeper)
    → times t (filter (is_none_of_these us) ss) ≡ cond (list_any (λ u. u == t) us) 0 (times t ss)
times-left us t [] = by_any (list_any (λ u. u == t) us)
  where
    by_any : (b : Bool) → 0 ≡ cond {A = ℕ} b 0 0
    by_any true = refl
    by_any false = refl
times-left us t (x ∷ ss) =
    by_thread (cases_eq x.thread t) (list_any (λ u. u == x.thread) us) refl
    (list_any (λ u. u == t) us) refl (times-left us t ss)
  where
    others : (n : ℕ) → 0 + n ≡ n
    others n = omega arith

    by_thread : (x.thread ≡ t) ⊎ (x.thread ≡ t → ⊥) → (b : Bool)
        → list_any (λ u. u == x.thread) us ≡ b → (d : Bool) → list_any (λ u. u == t) us ≡ d
        → times t (filter (is_none_of_these us) ss) ≡ cond d 0 (times t ss)
        → times t (cond (not b) (x ∷ filter (is_none_of_these us) ss)
        (filter (is_none_of_these us) ss)) ≡ cond d 0 (times t (x ∷ ss))
    by_thread (inl same) true e true f rest = rest
    by_thread (inl same) true e false f rest =
        absurd (true≢false (sym e ∙ ap (λ n. list_any (λ u. u == n) us) same ∙ f))
    by_thread (inl same) false e true f rest =
        absurd (false≢true (sym e ∙ ap (λ n. list_any (λ u. u == n) us) same ∙ f))
    by_thread (inl same) false e false f rest =
        times-cons t x (filter (is_none_of_these us) ss)
        ∙ ap (λ n. cond {A = ℕ} (x.thread == t) 1 0 + n) rest
        ∙ sym (times-cons t x ss)
    by_thread (inr other) true e true f rest = rest
    by_thread (inr other) true e false f rest =
        rest
        ∙ sym
        (times-cons t x ss
        ∙ ap (λ b. cond {A = ℕ} b 1 0 + times t ss) (ne_eqb x.thread t other)
        ∙ others (times t ss))
    by_thread (inr other) false e true f rest =
        times-cons t x (filter (is_none_of_these us) ss)
        ∙ ap (λ b. cond {A = ℕ} b 1 0 + times t (filter (is_none_of_these us) ss))
        (ne_eqb x.thread t other)
        ∙ others (times t (filter (is_none_of_these us) ss))
        ∙ rest
    by_thread (inr other) false e false f rest =
        times-cons t x (filter (is_none_of_these us) ss)
        ∙ ap (λ n. cond {A = ℕ} (x.thread == t) 1 0 + n) rest
        ∙ sym (times-cons t x ss)

-- ---- parents and statuses

module _ (p status : ℕ) where
  lower : (q : ℕ) (o : Option Process) → IfSome o (λ process. process.parent < suc q)
      → IfSome (option_map (orphaned p) o) (λ process. process.parent < suc q)
  lower q None h = tt
  lower q (Some process) h =
      cond_both (is_child p process) 0 process.parent (λ n. n < suc q) (λ yes. omega arith)
      (λ others. h)

  parents_ended : (ps : List Process)
      → ((q : ℕ) → IfSome (numbered ps q) (λ process. process.parent < q)) → (q : ℕ)
      → IfSome (numbered (changed (ended_by status) ps p) q) (λ process. process.parent < q)
  parents_ended ps all zero = tt
  parents_ended ps all (suc j) = by_p p
    where
      walk : (n : ℕ) (xs : List Process) (i j : ℕ)
          → IfSome (slice_get xs j) (λ process. process.parent < n)
          → IfSome (slice_get (changed_at (ended_by status) xs i) j) (λ process. process.parent < n)
      walk n [] i j h = h
      walk n (x ∷ xs) zero zero h = h
      walk n (x ∷ xs) zero (suc j) h = h
      walk n (x ∷ xs) (suc i) zero h = h
      walk n (x ∷ xs) (suc i) (suc j) h = walk n xs i j h

      by_p : (p : ℕ)
          → IfSome (numbered (changed (ended_by status) ps p) (suc j))
          (λ process. process.parent < suc j)
      by_p zero = all (suc j)
      by_p (suc i) = walk (suc j) ps i j (all (suc j))

  pub parents_new : (ps : List Process)
      → ((q : ℕ) → IfSome (numbered ps q) (λ process. process.parent < q)) → (q : ℕ)
      → IfSome (numbered (ended_processes ps p status) q) (λ process. process.parent < q)
  parents_new ps all zero = tt
  parents_new ps all (suc j) =
      subst (λ o. IfSome o (λ process. process.parent < suc j))
      (sym (slice_get-map (orphaned p) (changed (ended_by status) ps p) j))
      (lower j (slice_get (changed (ended_by status) ps p) j) (parents_ended ps all (suc j)))

-- ---- the end of a process

module _ (w : World) (lawful : Lawful w) (p status : ℕ) (small : status < 256) where
  abbrev v : World
  v = without_process w p status

  threads_new : (t : ℕ) → thread_at v t ≡ unless_of p (thread_at w t)
  threads_new t = mapped_at (unless_of p) refl w.threads t

  lives_new : (q : ℕ) → IsTrue (is_some (live_process v q))
      → (q ≢ p) × IsTrue (is_some (live_process w q))
  lives_new q lives = by_number (cases_eq q p)
    where
      by_number : (q ≡ p) ⊎ (q ≡ p → ⊥) → (q ≢ p) × IsTrue (is_some (live_process w q))
      by_number (inl same) =
          absurd
          (false≢true
          (sym (ap is_some (ap (live_process v) same ∙ ended_dead w.processes p status)) ∙ lives))
      by_number (inr other) =
          (other, sym (ap is_some (others_live w.processes p status q other)) ∙ lives)

  private_new : All (λ h. All (IsAlone v) h.space) (all_holdings v.processes)
  private_new = alone_fewer w v
      (λ frame. part_sum (λ h. count_by (λ x. x.1.frame == frame) h.space)
      (all_holdings v.processes) (all_holdings w.processes) (ended_part w.processes p status))
      (part_all (λ h. All (IsAlone w) h.space) (all_holdings v.processes)
      (all_holdings w.processes) (ended_part w.processes p status) lawful.processes.private)

  asleep_new : (t : ℕ) → times t v.sleepers ≡ turns_asleep (thread_at v t)
  asleep_new t =
      times-left (threads_of w p) t w.sleepers
      ∙ ap (λ b. cond b 0 (times t w.sleepers)) (among (belongs_to p) refl w.threads t)
      ∙ by_thread (thread_at w t) (lawful.threads.asleep t)
      ∙ ap turns_asleep (sym (threads_new t))
    where
      by_thread : (o : Option Thread) → times t w.sleepers ≡ turns_asleep o
          → cond (belongs_to p o) 0 (times t w.sleepers) ≡ turns_asleep (unless_of p o)
      by_thread o was = by_belongs (belongs_to p o)
        where
          by_belongs : (b : Bool) → cond b 0 (times t w.sleepers) ≡ turns_asleep (cond b None o)
          by_belongs true = refl
          by_belongs false = was

  less_had : IsLess w v
  less_had = record {
    mapped = λ frame e.
        part_any (maps_frame frame) (all_holdings v.processes) (all_holdings w.processes)
        (ended_part w.processes p status) e;
    holdings =
        part_all (AreHoldings (length w.owners)) (all_holdings v.processes)
        (all_holdings w.processes) (ended_part w.processes p status) lawful.processes.holdings;
    private = private_new;
    populated = λ q lives e.
        let was = lives_new q lives in
        lawful.processes.populated q was.1
        (sym (places_mapped (belongs_to q) (unless_of p) (left_belongs p q was.0) 1 w.threads) ∙ e);
    parents = parents_new p status w.processes lawful.processes.parents;
    statuses = statuses_new p status small w.processes lawful.processes.statuses;
    given = (
      omega (arith, lawful.processes.given.0, ended_length w.processes p status),
      omega (
        arith,
        lawful.processes.given.1,
        ended_length w.processes p status,
        length-map w.threads (unless_of p),
      ),
    );
    ranges = λ t.
        subst (λ o. IfSome o (IsThread v.processes)) (sym (threads_new t))
        (left_each p (IsThread w.processes) (IsThread v.processes) in_new (thread_at w t)
        (lawful.threads.ranges t));
    asleep = asleep_new;
    sleepers =
        all-filtered (IsSleeper (length w.owners)) (is_none_of_these (threads_of w p)) w.sleepers
        lawful.threads.sleepers;
    live =
        omega (
          arith,
          lawful.limits.threads.0,
          places_fewer is_some (unless_of p)
              (left_is p) 1 w.threads,
        );
    threads = length-map w.threads (unless_of p);
    processes =
        omega (
          arith,
          lawful.limits.processes,
          part_length (all_holdings v.processes) (all_holdings w.processes)
              (ended_part w.processes p status),
        );
  }
    where
      in_new : (thread : Thread) → thread.process ≢ p → IsThread w.processes thread
          → IsThread v.processes thread
      in_new thread other is =
          record {
            process = ap is_some (others_live w.processes p status thread.process other)
                ∙ is.process;
            registers = is.registers;
            pending = is.pending;
            mask = is.mask;
            saved =
                is.saved;
          }

  pub lawful-closed : Lawful (tidied v)
  lawful-closed = lawful-tidied w v less_had lawful

  awake-closed : (s : ℕ) → IsAwake w s → IsAwake (tidied v) s
  awake-closed s h =
      subst (λ o. IfSome o (λ thread. thread.state ≡ Ready)) (sym (threads_new s))
      (left_each p (λ thread. thread.state ≡ Ready) (λ thread. thread.state ≡ Ready)
      (λ thread other ready. ready) (thread_at w s) h)

pub stands-process_ended : (ts : List ℕ) (w : World) (p status : ℕ) → status < 256 → LawfulWith ts w
    → LawfulWith ts (process_ended w p status)
stands-process_ended ts w p status h k =
    stands-posted ts (tidied (without_process w p status)) (parent_of w p) 17 (omega arith)
    (omega arith)
    (record {
      lawful = lawful-closed w k.lawful p status h;
      awake =
          awake_by w (tidied (without_process w p status)) ts (awake-closed w k.lawful p status h)
          k.awake;
      apart = k.apart;
    })

-- ---- the end of a thread

pub stands-thread_ended : (ts : List ℕ) (w : World) (t : ℕ) (thread : Thread)
    → thread_at w t ≡ Some thread → turns_asleep (Some thread) ≡ 0 → LawfulWith ts w
    → LawfulWith ts (thread_ended w thread.process t)
stands-thread_ended ts w t thread is awake k =
    cond_both (length (threads_of w thread.process) == 1) (process_ended w thread.process 0)
    (without_thread w t) (LawfulWith ts)
    (λ last. stands-process_ended ts w thread.process 0 (omega arith) k)
    (λ others. record {
      lawful =
          lawful-without_thread w t thread is
          (eqb-false (length (threads_of w thread.process)) 1 others) awake k.lawful;
      awake = awake_by w (without_thread w t) ts still k.awake;
      apart = k.apart;
    })
  where
    still : (s : ℕ) → IsAwake w s → IsAwake (without_thread w t) s
    still s h = by_number (cases_eq s t)
      where
        by_number : (s ≡ t) ⊎ (s ≡ t → ⊥) → IsAwake (without_thread w t) s
        by_number (inl same) =
            subst (λ o. IfSome o (λ x. x.state ≡ Ready))
            (sym
            (ap (λ n. flat (numbered (changed none_of w.threads t) n)) same
            ∙ gone_here w.threads t))
            tt
        by_number (inr other) =
            subst (λ o. IfSome (flat o) (λ x. x.state ≡ Ready))
            (sym (changed_other none_of w.threads t s other)) h
