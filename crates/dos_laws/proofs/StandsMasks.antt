-- The services of masks, saved handlers and posts keep a world standing: 17, 18, 19. So does a
-- thread's turn at the signal point.
use Rattle.std.proofs.Common.{ℕ, zero, suc, ◌+◌, ◌-◌, ◌^◌, ◌<◌, ◌≤◌, ◌≡◌, ◌≢◌, inl, inr, refl, sym}
use Rattle.std.proofs.Common.{ap, ◌∙◌, subst, Bool, true, false, cond, List, [], ◌∷◌, length}
use Rattle.std.proofs.Common.{Option, Some, None, option_map, arith}
use Rattle.std.specs.Prelude.{All, ◌==◌, ◌||◌, nat_lt, nat_le, is_none, find, slice_index}
use Rattle.std.proofs.lemmas.Bool.{cond_both, eqb-false, or_parts, ltb-false, leb-false}
use Rattle.std.proofs.lemmas.List.Elements.{All-cons, All-head, All-tail}
use Rattle.dos_world.specs.Numbered.{run_of}
use Rattle.dos_world.specs.World.{World, Thread, Holdings, Registers, thread_at, live_process}
use Rattle.dos_world.specs.World.{action_of, with_thread, is_state, has_bit, set}
use Rattle.dos_world.specs.Kernel.{minus, posted, woken, awake, process_ended}
use Rattle.dos_world.specs.Calls.{Call, mask_of, returns_in, refuses}
use Rattle.dos_world.specs.SignalCalls.{sig_mask, masked, sig_return, sig_return_by, saved_of}
use Rattle.dos_world.specs.SignalCalls.{restored, refused_in_place, kill}
use Rattle.dos_world.specs.Signals.{may_come, chosen, cleared, handling, interrupted}
use Rattle.dos_world.specs.Signals.{default_action, handler_action, delivered, turn_by, signal_turn}
use Rattle.dos_world.specs.Lawful.{IsSaved, IsAction, AreHoldings}
use Rattle.dos_world.specs.declared.ThreadState.TheVariants.{Ready}
use Rattle.dos_world.proofs.UsualCalls.{held_all}
use Rattle.dos_laws.specs.Standing.{LawfulWith}
use Rattle.dos_laws.proofs.Numbers.{changed_there}
use Rattle.dos_laws.proofs.RegisterRanges.{set_ranges, with_pc_ranges, with_held_ranges}
use Rattle.dos_laws.proofs.Stands.{Changes, stands-with_thread}
use Rattle.dos_laws.proofs.StandsSignals.{mask-allowed, mask-with, pending-cleared, cleared_change}
use Rattle.dos_laws.proofs.StandsSignals.{stands-posted, stands-woken}
use Rattle.dos_laws.proofs.StandsEnds.{stands-process_ended}
use Rattle.dos_laws.proofs.StandsCalls.{StandsCall, Leaves, caller_is, mask_is, returns_in_stands}
use Rattle.dos_laws.proofs.StandsCalls.{refuses_stands, stands-registers, leaves_if}

-- ---- the services

module _ (ts : List ℕ) (c : Call) (call : StandsCall ts c) where
  pub sig_mask_stands : Leaves ts c call (sig_mask c)
  sig_mask_stands =
      let former = mask_is ts c call in
      returns_in_stands ts c call (with_thread c.world c.thread (masked c.a0)) (mask_of c) former.0
      (stands-with_thread (c.thread ∷ ts) c.world c.thread (masked c.a0) (record {
        process = λ thread. refl;
        state = λ thread. refl;
        ranges =
            λ thread at is. record {
              process = is.process;
              registers = is.registers;
              pending =
                  is.pending;
              mask = mask-allowed c.a0 call.first;
              saved = is.saved;
            };
      }) call.stands)

  -- what the caller has saved
  saved_is : saved_of c ≡ call.caller.saved
  saved_is =
      ap (λ o. elim o as (λ _. List (Registers × ℕ)) [ None ↦ [] | Some thread ↦ thread.saved ])
      call.is

  pub sig_return_stands : Leaves ts c call (sig_return c)
  sig_return_stands =
      by_saved (saved_of c)
      (subst (λ saved. (length saved ≤ 4) × All IsSaved saved) (sym saved_is)
      (caller_is ts c call).saved)
    where
      by_saved : (saved : List (Registers × ℕ)) → (length saved ≤ 4) × All IsSaved saved
          → Leaves ts c call (sig_return_by saved c)
      by_saved [] are =
          stands-registers (c.thread ∷ ts) c.world c.thread refused_in_place
          (λ r a. set_ranges r 10 (minus 22) (omega arith) a) call.stands
      by_saved (last ∷ others) are =
          let first : IsSaved last = All-head IsSaved last others are.1 in
          stands-with_thread (c.thread ∷ ts) c.world c.thread (restored last others) (record {
            process = λ thread. refl;
            state = λ thread. refl;
            ranges =
                λ thread at is.
                record {
                  process = is.process;
                  registers =
                      with_held_ranges last.0 None tt first.0;
                  pending = is.pending;
                  mask =
                      first.1;
                  saved =
                      (omega (arith, are.0), All-tail IsSaved last others are.1);
                };
          }) call.stands

  pub kill_stands : Leaves ts c call (kill c)
  kill_stands =
      let told : World = cond (c.a1 == 0) c.world (posted c.world c.a0 c.a1) in
      leaves_if ts c call (nat_lt 31 c.a1) (refuses 22 c)
      (cond (is_none (live_process c.world c.a0)) (refuses 3 c) (returns_in told 0 c))
      (λ over. refuses_stands ts c call 22 (omega arith))
      (λ within. leaves_if ts c call (is_none (live_process c.world c.a0)) (refuses 3 c)
      (returns_in told 0 c)
      (λ dead. refuses_stands ts c call 3 (omega arith))
      (λ lives. returns_in_stands ts c call told 0 (omega arith)
      (cond_both (c.a1 == 0) c.world (posted c.world c.a0 c.a1)
      (LawfulWith (c.thread ∷ ts)) (λ test. call.stands)
      (λ post. stands-posted (c.thread ∷ ts) c.world c.a0 c.a1
      (omega (arith, eqb-false c.a1 0 post))
      (omega (arith, ltb-false 31 c.a1 within)) call.stands))))

-- ---- the signal point

-- what is found in a run of numbers is one of them
pub found_in : (test : ℕ → Bool) (a n : ℕ) (k : ℕ) → find test (run_of a n) ≡ Some k
    → (a ≤ k) × (k < a + n)
found_in test a zero k e = cc
found_in test a (suc n) k e = by_test (test a) (λ rest. found_in test (suc a) n k rest) e
  where
    by_test : (b : Bool) → (find test (run_of (suc a) n) ≡ Some k → (suc a ≤ k) × (k < suc a + n))
        → cond b (Some a) (find test (run_of (suc a) n)) ≡ Some k → (a ≤ k) × (k < a + suc n)
    by_test true rest h = let same : a ≡ k = cc in (omega arith, omega arith)
    by_test false rest h = let r = rest h in (omega (arith, r.0), omega (arith, r.1))

chosen_is : (thread : Thread) (signal : ℕ) → chosen thread ≡ Some signal
    → (1 ≤ signal) × (signal ≤ 31)
chosen_is thread signal h = by_nine (has_bit thread.pending 9) h
  where
    by_nine : (b : Bool) → cond b (Some 9) (find (may_come thread) (run_of 1 31)) ≡ Some signal
        → (1 ≤ signal) × (signal ≤ 31)
    by_nine true e = let same : 9 ≡ signal = cc in (omega arith, omega arith)
    by_nine false e = let r = found_in (may_come thread) 1 31 signal e in (r.0, omega (arith, r.1))

module _ (ts : List ℕ) (w : World) (t : ℕ) (k : LawfulWith ts w) where
  -- an action that is neither default nor dropped is where a handler begins
  pub handler_word : (p signal : ℕ) → action_of w p signal < 2 ^ 32
  handler_word p signal = by_process (live_process w p) refl
    where
      action_word : (a : ℕ) → IsAction a → a < 2 ^ 32
      action_word a (inl one) = omega arith
      action_word a (inr place) = omega (arith, place.1)

      at : (actions : List ℕ) (i : ℕ) → All IsAction actions → slice_index actions i < 2 ^ 32
      at [] i all = omega arith
      at (x ∷ xs) zero all = action_word x (All-head IsAction x xs all)
      at (x ∷ xs) (suc i) all = at xs i (All-tail IsAction x xs all)

      by_process : (o : Option Holdings) → live_process w p ≡ o
          → elim o as (λ _. ℕ) [ None ↦ 0 | Some h ↦ slice_index h.actions (signal - 1) ] < 2 ^ 32
      by_process None is = omega arith
      by_process (Some h) is =
          at h.actions (signal - 1)
          (held_all (AreHoldings (length w.owners)) w.processes p h k.lawful.processes.holdings
          is).actions.1

  module _ (thread : Thread) (is : thread_at w t ≡ Some thread) where
    default_stands : (signal : ℕ) → 1 ≤ signal → signal ≤ 31
        → LawfulWith ts (default_action w t thread signal)
    default_stands signal low high =
        cond_both (signal == 17) (with_thread w t (cleared 17))
        (process_ended w thread.process (128 + signal)) (LawfulWith ts)
        (λ dropped. stands-with_thread ts w t (cleared 17) (cleared_change w t 17 (omega arith)) k)
        (λ ends. stands-process_ended ts w thread.process (128 + signal) (omega arith) k)

    -- what a handler leaves, where fewer than four are saved
    handling_change : (u : World) (signal handler : ℕ) → 1 ≤ signal → signal ≤ 31 → signal ≢ 9
        → handler < 2 ^ 32 → ((x : Thread) → thread_at u t ≡ Some x → length x.saved < 4)
        → Changes u t (handling signal handler)
    handling_change u signal handler low high other word room = record {
      process = λ x. refl;
      state = λ x. refl;
      ranges = λ x at range. record {
        process = range.process;
        registers =
            with_pc_ranges (set_of x.registers) handler word
            (set_ranges x.registers 10 signal (omega arith) range.registers);
        pending = pending-cleared x.pending signal low range.pending;
        mask = mask-with x.mask signal low high other range.mask;
        saved = (
          omega (arith, room x at),
          All-cons IsSaved (x.registers, x.mask) x.saved
              (range.registers, range.mask) range.saved.1,
        );
      };
    }
      where
        set_of : Registers → Registers
        set_of r = set r 10 signal

    handler_stands : (signal handler : ℕ) → 1 ≤ signal → signal ≤ 31 → signal ≢ 9 → handler < 2 ^ 32
        → LawfulWith ts (handler_action w t thread signal handler)
    handler_stands signal handler low high other word =
        cond_both (nat_le 4 (length thread.saved)) w
        (with_thread (interrupted w t thread) t (handling signal handler)) (LawfulWith ts)
        (λ full. k)
        (λ room. by_state room (is_state Ready (Some thread)))
      where
        by_state : nat_le 4 (length thread.saved) ≡ false → (b : Bool)
            → LawfulWith ts
            (with_thread (cond b w (woken w t (minus 4))) t (handling signal handler))
        by_state room true =
            stands-with_thread ts w t (handling signal handler)
            (handling_change w signal handler low high other word
            (λ x at. let same : thread ≡ x = cc in
            subst (λ y. length y.saved < 4) same (leb-false 4 (length thread.saved) room))) k
        by_state room false =
            stands-with_thread ts (woken w t (minus 4)) t (handling signal handler)
            (handling_change (woken w t (minus 4)) signal handler low high other word
            (λ x at. let same : awake (minus 4) thread ≡ x = woken_is x at in
            subst (λ y. length y.saved < 4) same (leb-false 4 (length thread.saved) room)))
            (stands-woken ts w t (minus 4) (omega arith) k)
          where
            woken_is : (x : Thread) → thread_at (woken w t (minus 4)) t ≡ Some x
                → awake (minus 4) thread ≡ x
            woken_is x at =
                let now : ◌≡◌ {A = Option Thread} (Some (awake (minus 4) thread)) (Some x) =
                sym
                (changed_there (awake (minus 4)) w.threads t ∙ ap (option_map (awake (minus 4))) is)
                ∙ at in
                cc

    delivered_stands : (signal : ℕ) → 1 ≤ signal → signal ≤ 31
        → LawfulWith ts (delivered w t thread signal)
    delivered_stands signal low high =
        let action : ℕ = action_of w thread.process signal in
        cond_both ((action == 0) || (signal == 9)) (default_action w t thread signal)
        (cond (action == 1) (with_thread w t (cleared signal))
        (handler_action w t thread signal action)) (LawfulWith ts)
        (λ default. default_stands signal low high)
        (λ others. cond_both (action == 1) (with_thread w t (cleared signal))
        (handler_action w t thread signal action) (LawfulWith ts)
        (λ dropped. stands-with_thread ts w t (cleared signal) (cleared_change w t signal low) k)
        (λ handler. handler_stands signal action low high
        (eqb-false signal 9 (or_parts (action == 0) (signal == 9) others).1)
        (handler_word thread.process signal)))

  pub stands-signal_turn : LawfulWith ts (signal_turn w t)
  stands-signal_turn = by_thread (thread_at w t) refl
    where
      by_chosen : (thread : Thread) → thread_at w t ≡ Some thread → (o : Option ℕ)
          → chosen thread ≡ o
          → LawfulWith ts
          (elim o as (λ _. World) [ None ↦ w | Some signal ↦ delivered w t thread signal ])
      by_chosen thread is None e = k
      by_chosen thread is (Some signal) e =
          let range = chosen_is thread signal e in delivered_stands thread is signal range.0 range.1

      by_thread : (o : Option Thread) → thread_at w t ≡ o → LawfulWith ts (turn_by w t o)
      by_thread None is = k
      by_thread (Some thread) is = by_chosen thread is (chosen thread) refl
