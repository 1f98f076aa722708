-- The services of threads, and the end of a process by its own call, keep a world standing: 1, 2,
-- 3, 20 to 24.
use Rattle.std.proofs.Common.{ℕ, zero, suc, ◌+◌, ◌%◌, ◌/◌, ◌^◌, ◌≤◌, ◌≡◌, refl, ap, subst, false}
use Rattle.std.proofs.Common.{cond, not, List, [], ◌∷◌, ◌++◌, length, Option, Some, arith}
use Rattle.std.specs.Prelude.{All, IfSome, IsTrue, ◌==◌, slice_get, is_some, option_and_then}
use Rattle.std.proofs.lemmas.List.Elements.{All-nil}
use Rattle.dos_world.specs.Numbered.{numbered}
use Rattle.dos_world.specs.World.{World, Process, Thread, Registers, flat, holdings_of}
use Rattle.dos_world.specs.Kernel.{thread_ended, answered}
use Rattle.dos_world.specs.Play.{Play, reading_of}
use Rattle.dos_world.specs.Calls.{Call, Served, mask_of, returns_in, refuses}
use Rattle.dos_world.specs.ThreadCalls.{thread_exit, thread_new, get_tid, yield, are_threads_full}
use Rattle.dos_world.specs.ThreadCalls.{ready_thread, new_registers, next_thread, with_new_thread}
use Rattle.dos_world.specs.ProcessCalls.{process_exit, get_pid}
use Rattle.dos_world.specs.Services.{clock, round_number}
use Rattle.dos_world.specs.Lawful.{IsThread, IsSaved, IsMask, AreRegisters, turns_asleep}
use Rattle.dos_world.specs.declared.ThreadState.TheVariants.{Ready}
use Rattle.dos_laws.specs.Standing.{LawfulWith}
use Rattle.dos_laws.proofs.RegisterRanges.{new_ranges, answered_ranges}
use Rattle.dos_laws.proofs.NewThread.{lawful-with_new_thread}
use Rattle.dos_laws.proofs.Stands.{awake_by}
use Rattle.dos_laws.proofs.StandsEnds.{stands-process_ended, stands-thread_ended}
use Rattle.dos_laws.proofs.StandsCalls.{StandsCall, Leaves, law, process_alive, process_within}
use Rattle.dos_laws.proofs.StandsCalls.{thread_within, mask_is, caller_awake, returns_stands}
use Rattle.dos_laws.proofs.StandsCalls.{returns_in_stands, returns_two_stands, refuses_stands}
use Rattle.dos_laws.proofs.StandsCalls.{stands-registers, stands-passed, leaves_if}

-- ---- a thread more

-- a list with a ready thread more
pub more_awake : (xs : List (Option Thread)) (y : Thread) → y.state ≡ Ready → (s : ℕ)
    → IfSome (flat (numbered xs s)) (λ thread. thread.state ≡ Ready)
    → IfSome (flat (numbered (xs ++ Some y ∷ []) s)) (λ thread. thread.state ≡ Ready)
more_awake xs y ready zero h = h
more_awake xs y ready (suc i) h = at xs i h
  where
    at : (xs : List (Option Thread)) (i : ℕ)
        → IfSome (flat (slice_get xs i)) (λ thread. thread.state ≡ Ready)
        → IfSome (flat (slice_get (xs ++ Some y ∷ []) i)) (λ thread. thread.state ≡ Ready)
    at [] zero h = ready
    at [] (suc i) h = tt
    at (x ∷ xs) zero h = h
    at (x ∷ xs) (suc i) h = at xs i h

-- a thread that begins is in range, where its process lives and its registers, its mask and what it
-- has saved are
pub ready_is : (ps : List Process) (p : ℕ) (r : Registers) (mask : ℕ) (saved : List (Registers × ℕ))
    → IsTrue (is_some (option_and_then holdings_of (numbered ps p))) → AreRegisters r → IsMask mask
    → (length saved ≤ 4) × All IsSaved saved → IsThread ps (ready_thread p r mask saved)
ready_is ps p r mask saved lives are is kept =
    record {
      process = lives;
      registers = are;
      pending = (omega arith, refl);
      mask = is;
      saved =
          kept;
    }

pub stands-with_new_thread : (ts : List ℕ) (w : World) (thread : Thread)
    → are_threads_full w.threads ≡ false → IsThread w.processes thread → thread.state ≡ Ready
    → LawfulWith ts w → LawfulWith ts (with_new_thread w thread)
stands-with_new_thread ts w thread room is ready k = record {
  lawful =
      lawful-with_new_thread w thread room is
      (ap (λ s. turns_asleep (Some (record thread { state = s }))) ready) k.lawful;
  awake = awake_by w (with_new_thread w thread) ts (more_awake w.threads thread ready) k.awake;
  apart = k.apart;
}

-- ---- the services

module _ (ts : List ℕ) (c : Call) (call : StandsCall ts c) where
  pub thread_exit_stands : Leaves ts c call (thread_exit c)
  thread_exit_stands =
      subst (λ p. LawfulWith ts (thread_ended c.world p c.thread)) call.own
      (stands-thread_ended ts c.world c.thread call.caller call.is (caller_awake ts c call)
      (stands-passed ts c.world c.thread call.stands))

  pub process_exit_stands : Leaves ts c call (process_exit c)
  process_exit_stands =
      stands-process_ended ts c.world c.process (c.a0 % 256) (omega arith)
      (stands-passed ts c.world c.thread call.stands)

  pub thread_new_stands : Leaves ts c call (thread_new c)
  thread_new_stands =
      let thread : Thread = ready_thread c.process (new_registers c.a0 c.a1 c.a2) (mask_of c) [] in
      let made : Play Served =
      returns_in (with_new_thread c.world thread) (next_thread c.world) c in
      leaves_if ts c call (not (c.a0 % 2 == 0)) (refuses 22 c)
      (cond (are_threads_full c.world.threads) (refuses 11 c) made)
      (λ odd. refuses_stands ts c call 22 (omega arith))
      (λ even. leaves_if ts c call (are_threads_full c.world.threads) (refuses 11 c) made
      (λ full. refuses_stands ts c call 11 (omega arith))
      (λ room. returns_in_stands ts c call (with_new_thread c.world thread) (next_thread c.world)
      (let l = law ts c call in omega (arith, l.limits.threads.1))
      (stands-with_new_thread (c.thread ∷ ts) c.world thread room
      (ready_is c.world.processes c.process (new_registers c.a0 c.a1 c.a2) (mask_of c) []
      (process_alive ts c call)
      (new_ranges c.a0 c.a1 c.a2 call.first call.second call.third) (mask_is ts c call)
      (omega arith, All-nil IsSaved))
      refl call.stands)))

  pub get_pid_stands : Leaves ts c call (get_pid c)
  get_pid_stands =
      let n = process_within ts c call in returns_stands ts c call c.process (omega (arith, n.1))

  pub get_tid_stands : Leaves ts c call (get_tid c)
  get_tid_stands =
      let n = thread_within ts c call in returns_stands ts c call c.thread (omega (arith, n.2))

  pub clock_stands : Leaves ts c call (clock c)
  clock_stands = (
    tt,
    λ answer is. returns_two_stands ts c call c.world (reading_of answer % 2 ^ 32)
        (reading_of answer / 2 ^ 32 % 2 ^ 32) (omega arith) (omega arith) call.stands,
  )

  pub yield_stands : Leaves ts c call (yield c)
  yield_stands =
      stands-registers ts c.world c.thread (answered 0) (λ r a. answered_ranges 0 r (omega arith) a)
      (stands-passed ts c.world c.thread call.stands)

  pub round_stands : Leaves ts c call (round_number c)
  round_stands =
      let l = law ts c call in
      returns_stands ts c call (c.world.rounds + 1) (omega (arith, l.run.count))
