-- A lawful world goes on standing in every round: the invariant, for all services and all answers
-- that fit.
use Rattle.std.proofs.Common.{ℕ, ◌+◌, ◌/◌, ◌≡◌, refl, List, [], ◌∷◌, Option, Some, None, arith}
use Rattle.dos_world.specs.World.{with_thread, World, Thread, thread_at, entry_at, space_of, look}
use Rattle.dos_world.specs.World.{released}
use Rattle.dos_world.specs.World.{with_budget}
use Rattle.dos_world.specs.Calls.{Call, Service, call_of, refuses}
use Rattle.dos_world.specs.declared.Entry.{Entry}
use Rattle.flat_machine.specs.Rest.{process_of}
use Rattle.round_core.proofs.Faults.{step-small}
use Rattle.round_core.specs.Invariants.{Keeps}
use Rattle.round_core.proofs.Rows.{OfEach, by_number}
use Rattle.dos_laws.specs.Standing.{LawfulWith, fit_protocol}
use Rattle.dos_laws.proofs.Mapped.{entry_taken}
use Rattle.dos_laws.proofs.Frames.{thread_given}
use Rattle.dos_laws.proofs.RegisterRanges.{with_held_ranges}
use Rattle.dos_laws.proofs.Stands.{with_run, stands-with_thread}
use Rattle.dos_laws.proofs.StandsSignals.{stands-posted}
use Rattle.dos_laws.proofs.StandsEnds.{stands-process_ended}
use Rattle.dos_laws.proofs.StandsCalls.{StandsCall, Leaves, call_stands, stands-passed}
use Rattle.dos_laws.proofs.StandsCalls.{stands-registers, refuses_stands}
use Rattle.dos_laws.proofs.StandsThreads.{thread_exit_stands, process_exit_stands}
use Rattle.dos_laws.proofs.StandsThreads.{thread_new_stands, get_pid_stands, get_tid_stands}
use Rattle.dos_laws.proofs.StandsThreads.{clock_stands, yield_stands, round_stands}
use Rattle.dos_laws.proofs.StandsMasks.{sig_mask_stands, sig_return_stands, kill_stands}
use Rattle.dos_laws.proofs.StandsMasks.{stands-signal_turn}
use Rattle.dos_laws.proofs.StandsCopies.{stands-grant, read_stands, write_stands}
use Rattle.dos_laws.proofs.StandsHeld.{sig_handler_stands, share_stands}
use Rattle.dos_laws.proofs.StandsDescriptors.{pipe_stands, close_stands, dup_stands}
use Rattle.dos_laws.proofs.StandsFutexes.{futex_wait_stands, futex_wake_stands, stands-begins}
use Rattle.dos_laws.proofs.StandsFutexes.{stands-ripen}
use Rattle.dos_laws.proofs.StandsWaits.{wait_stands}
use Rattle.dos_laws.proofs.StandsUnmap.{unmap_stands}
use Rattle.dos_laws.proofs.StandsMaps.{map_stands}
use Rattle.dos_laws.proofs.StandsChildren.{fork_stands}
use Rattle.dos_laws.proofs.StandsSteps.{stands-step}

-- ---- the services

-- a service that keeps the world standing, whoever calls
abbrev pub ServiceStands : Service → Type 0
ServiceStands one = (ts : List ℕ) (c : Call) (call : StandsCall ts c) → Leaves ts c call (one c)

-- One row a service: a new service is a line more.
pub services_stand : OfEach (λ number one. ServiceStands one)
services_stand = record {
  of_thread_exit = thread_exit_stands;
  of_process_exit = process_exit_stands;
  of_thread_new = thread_new_stands;
  of_fork = fork_stands;
  of_wait = wait_stands;
  of_pipe = pipe_stands;
  of_read = read_stands;
  of_write = write_stands;
  of_close = close_stands;
  of_dup = dup_stands;
  of_futex_wait = futex_wait_stands;
  of_futex_wake = futex_wake_stands;
  of_map = map_stands;
  of_unmap = unmap_stands;
  of_share = share_stands;
  of_sig_handler = sig_handler_stands;
  of_sig_mask = sig_mask_stands;
  of_sig_return = sig_return_stands;
  of_kill = kill_stands;
  of_get_pid = get_pid_stands;
  of_get_tid = get_tid_stands;
  of_clock = clock_stands;
  of_yield = yield_stands;
  of_round = round_stands;
}

-- ---- the rest

-- who has an entry lives
pub entry_lives : (w : World) (t address : ℕ) (e : Entry) → entry_at w t address ≡ Some e
    → (thread : Thread) × (thread_at w t ≡ Some thread)
entry_lives w t address e h = by_thread (thread_at w t) refl h
  where
    by_thread : (o : Option Thread) → thread_at w t ≡ o
        → elim o as (λ _. Option Entry) [
          | None ↦ None
          | Some thread ↦ look (space_of w thread.process) (address / 4096)
        ] ≡ Some e
        → (thread : Thread) × (thread_at w t ≡ Some thread)
    by_thread None is q = cc
    by_thread (Some thread) is q = (thread, is)

refused_stands : (ts : List ℕ) (w : World) (t : ℕ) (thread : Thread)
    (is : thread_at w t ≡ Some thread) (k : LawfulWith (t ∷ ts) w)
    → Leaves ts (call_of w t thread) (call_stands ts w t thread is k)
    (refuses 38 (call_of w t thread))
refused_stands ts w t thread is k =
    refuses_stands ts (call_of w t thread) (call_stands ts w t thread is k) 38 (omega arith)

-- another budget
pub stands-budget : (ts : List ℕ) (w : World) (t budget : ℕ) → LawfulWith ts w
    → LawfulWith ts (with_thread w t (with_budget budget))
stands-budget ts w t budget k = stands-with_thread ts w t (with_budget budget) (record {
  process = λ thread. refl;
  state = λ thread. refl;
  ranges = λ thread at is. with_run w.processes thread _ _ _ is.registers is;
}) k

pub stands_kept : Keeps fit_protocol LawfulWith
stands_kept = record {
  steps_kept = λ ts w next t is k. stands-step ts w next t is k;
  emptied_kept = λ ts w t k.
      stands-registers ts w t released (λ r a. with_held_ranges r None tt a) k;
  budget_kept = λ ts w t k. stands-budget ts w t w.quantum k;
  begins = stands-begins;
  passes = stands-passed;
  grant_kept = λ ts w t address access e is k.
      let lives = entry_lives w t address e is in
      stands-grant ts w t e.frame access (thread_given w t lives.0 lives.1)
      (entry_taken w t address e k.lawful is) k;
  fault_kept = λ ts w t number is k.
      stands-process_ended ts w (process_of w t) (128 + number)
      (omega (arith, step-small w t number is)) (stands-passed ts w t k);
  served = λ number ts w t thread is k.
      by_number (λ n one. ServiceStands one) services_stand
      (λ n us c call. refuses_stands us c call 38 (omega arith)) number ts (call_of w t thread)
      (call_stands ts w t thread is k);
  post_kept = λ w post is k. stands-posted [] w post.pid post.signal is.0 is.1 k;
  turn_kept = λ w t k. stands-signal_turn [] w t k;
  ripen_kept = λ w k. stands-ripen [] w k;
}
