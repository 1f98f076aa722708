-- All that a round does but its last step leaves the quantum and the count of rounds of any world,
-- and sends its bytes behind those that were sent; and only read and clock ask.
use Rattle.std.proofs.Common.{refl, ℕ, ◌+◌, ◌%◌, ◌≡◌, sym}
use Rattle.std.proofs.Common.{subst, Bool, true, false, cond, not, List, [], ◌∷◌, ◌++◌, length}
use Rattle.std.proofs.Common.{Option, Some, None}
use Rattle.std.specs.Prelude.{◌==◌, ◌||◌, ◌≢◌, ⊤, filter, map, nat_le}
use Rattle.dos_world.specs.Numbered.{changed, numbers_of}
use Rattle.dos_world.specs.World.{World, Thread, thread_at, action_of}
use Rattle.dos_world.specs.World.{threads_of, parent_of}
use Rattle.dos_world.specs.World.{with_thread, without_thread}
use Rattle.dos_world.specs.World.{is_state}
use Rattle.dos_world.specs.Kernel.{minus, posted, tidied, orphaned, ended_by}
use Rattle.dos_world.specs.Kernel.{unless_of, is_none_of_these, process_ended, thread_ended, woken}
use Rattle.dos_world.specs.Calls.{Call, Served, call_of}
use Rattle.dos_world.specs.Signals.{chosen, cleared, handling, interrupted, default_action}
use Rattle.dos_world.specs.Signals.{handler_action, delivered, turn_by, signal_turn, would_wait}
use Rattle.dos_world.specs.Signals.{made_ready}
use Rattle.dos_world.specs.declared.Question.{Question}
use Rattle.dos_world.specs.declared.ThreadState.TheVariants.{Ready, Retry}
use Rattle.flat_machine.proofs.Stays.{step-form}
use Rattle.flat_machine.specs.Rest.{process_of}
use Rattle.round_core.specs.Protocol.{Protocol, Allows, silent_protocol}
use Rattle.round_core.specs.Invariants.{Keeps, ServiceKeeps, LeavesServed, IsOf, MayAsk}
use Rattle.dos_world.specs.Services.{service_of}
use Rattle.round_core.proofs.Services.{Said, Stands, posted_kept, service_left}

-- What is said of a world's quantum, of its count of rounds, and of the bytes that it has sent to
-- output and to error; and goes on to hold where more bytes are sent.
pub record OfSent (K : (quantum rounds : ℕ) (output error : List ℕ) → Type 0) : Type 0 where
  pub more_output : (q n : ℕ) (output error bytes : List ℕ) → K q n output error
      → K q n (output ++ bytes) error
  pub more_error : (q n : ℕ) (output error bytes : List ℕ) → K q n output error
      → K q n output (error ++ bytes)

module _ (K : (quantum rounds : ℕ) (output error : List ℕ) → Type 0)
    (of_sent : OfSent K) where
  abbrev J : World → Type 0
  J w = K w.quantum w.rounds w.output w.error

  -- whoever still has a part
  abbrev pub OfWorld : List ℕ → World → Type 0
  OfWorld ts w = J w

  -- the same of a world's threads and owners, whatever they are
  abbrev OfAny : Said
  OfAny threads owners quantum rounds output error = K quantum rounds output error

  stands : Stands OfAny
  stands = record {
    thread = λ f same w t k. k;
    new_thread = λ w thread k. k;
    owners = λ w owners count k. k;
    output = λ w bytes k. of_sent.more_output _ _ _ _ bytes k;
    error = λ w bytes k. of_sent.more_error _ _ _ _ bytes k;
  }

  -- ---- the kernel's changes

  same_if : (b : Bool) (u v : World) → J u → J v → J (cond b u v)
  same_if true u v h k = h
  same_if false u v h k = k

  posted_same : (w : World) (p signal : ℕ) → J w → J (posted w p signal)
  posted_same w p signal k = posted_kept OfAny stands w p signal k

  process_ended_same : (w : World) (p status : ℕ) → J w → J (process_ended w p status)
  process_ended_same w p status k =
      let closed : World = record w {
        processes = map (orphaned p) (changed (ended_by status) w.processes p);
        threads = map (unless_of p) w.threads;
        sleepers = filter (is_none_of_these (threads_of w p)) w.sleepers;
      } in
      posted_same (tidied closed) (parent_of w p) 17 k

  thread_ended_same : (w : World) (p t : ℕ) → J w → J (thread_ended w p t)
  thread_ended_same w p t k =
      same_if (length (threads_of w p) == 1) (process_ended w p 0) (without_thread w t)
      (process_ended_same w p 0 k) k

  -- ---- the signal point

  turn_same : (w : World) (t : ℕ) → J w → J (signal_turn w t)
  turn_same w t k = by_thread (thread_at w t)
    where
      delivered_same : (thread : Thread) (signal : ℕ) → J (delivered w t thread signal)
      delivered_same thread signal =
          let action : ℕ = action_of w thread.process signal in
          same_if ((action == 0) || (signal == 9)) (default_action w t thread signal)
          (cond (action == 1) (with_thread w t (cleared signal))
          (handler_action w t thread signal action))
          (same_if (signal == 17) (with_thread w t (cleared 17))
          (process_ended w thread.process (128 + signal)) k
          (process_ended_same w thread.process (128 + signal) k))
          (same_if (action == 1) (with_thread w t (cleared signal))
          (handler_action w t thread signal action) k
          (same_if (nat_le 4 (length thread.saved)) w
          (with_thread (interrupted w t thread) t (handling signal action)) k
          (same_if (is_state Ready (Some thread)) w (woken w t (minus 4)) k k)))

      by_chosen : (thread : Thread) (o : Option ℕ)
          → J (elim o as (λ _. World) [ None ↦ w | Some signal ↦ delivered w t thread signal ])
      by_chosen thread None = k
      by_chosen thread (Some signal) = delivered_same thread signal

      by_thread : (o : Option Thread) → J (turn_by w t o)
      by_thread None = k
      by_thread (Some thread) = by_chosen thread (chosen thread)

  made_ready_same : (w : World) (ts : List ℕ) → J w → J (made_ready w ts)
  made_ready_same w [] k = k
  made_ready_same w (t ∷ ts) k = made_ready_same _ ts k

  -- The services that ask may do so.
  abbrev pub AskersMay : Protocol → Type 0
  AskersMay protocol =
      (w : World) → J w → (question : Question) → protocol.may question w.output w.error

  module _ (protocol : Protocol) (may_ask : AskersMay protocol) where
    -- ---- the services

    services_same : (number : ℕ) → ServiceKeeps protocol OfWorld (service_of number)
    services_same number ts w t thread is k =
        let c : Call = call_of w t thread in
        service_left OfAny stands protocol (LeavesServed OfWorld t ts)
        (record { going = λ v h. h; waiting = λ v h. h; yielding = λ v h. h }) c k
        (λ n. ⊤) (λ called most. may_ask w k _) (λ called. may_ask w k _)
        (thread_ended_same c.world c.process t k)
        (process_ended_same c.world c.process (c.a0 % 256) k) number tt

    -- The invariant, for any answers.
    pub sent_kept : Keeps protocol OfWorld
    sent_kept = record {
      steps_kept = λ ts w next t is k. subst J (sym (step-form w next t is).is) k;
      emptied_kept = λ ts w t k. k;
      budget_kept = λ ts w t k. k;
      begins = λ w k. k;
      passes = λ ts w t k. k;
      grant_kept = λ ts w t address access e is k. k;
      fault_kept = λ ts w t number is k. process_ended_same w (process_of w t) (128 + number) k;
      served = services_same;
      post_kept = λ w post fits k. posted_same w post.pid post.signal k;
      turn_kept = turn_same;
      ripen_kept = λ w k.
          made_ready_same w
          (filter (λ t. not (would_wait w t)) (numbers_of (is_state Retry) w.threads)) k;
    }

-- ---- a run with its quantum, after so many rounds

abbrev pub IsOfRun : ℕ → ℕ → List ℕ → World → Type 0
IsOfRun q n ts w = IsOf q n w

pub same_run_kept : (q n : ℕ) (protocol : Protocol) → MayAsk protocol
    → Keeps protocol (IsOfRun q n)
same_run_kept q n protocol may_ask =
    sent_kept (λ r m output error. (r ≡ q) × (m ≡ n))
    (record {
      more_output = λ r m output error bytes k. k;
      more_error = λ r m output error bytes k. k;
    })
    protocol (λ w k question. may_ask question w.output w.error)

-- ---- who asks

-- what is always said
abbrev Nothing : Said
Nothing threads owners quantum rounds output error = ⊤

nothing_stands : Stands Nothing
nothing_stands = record {
  thread = λ f same w t k. k;
  new_thread = λ w thread k. k;
  owners = λ w owners count k. k;
  output = λ w bytes k. k;
  error = λ w bytes k. k;
}

-- No service but read and clock asks anything.
pub only_two_ask : (number : ℕ) → number ≢ 7 → number ≢ 22 → (c : Call)
    → Allows silent_protocol (λ (served : Served). ⊤) (service_of number c)
only_two_ask number no_read no_clock c =
    service_left Nothing nothing_stands silent_protocol (λ (served : Served). ⊤)
    (record { going = λ v h. h; waiting = λ v h. h; yielding = λ v h. h }) c tt
    (λ n. (n ≢ 7) × (n ≢ 22)) (λ called most. absurd (called.0 refl))
    (λ called. absurd (called.1 refl)) tt tt number (no_read, no_clock)
