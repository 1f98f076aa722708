-- Invariants of the machine: what one owes, change by change, and what the whole round then keeps.
-- This project's own.
--
-- An invariant is of a world and of the threads that still have a serial part in this round. That
-- index is what lets it say that nobody who waits or sleeps has a part.
use Rattle.std.specs.Prelude.{ℕ, ◌+◌, ◌≡◌, List, [], ◌∷◌, All, Some, Ok}
use Rattle.std.specs.Prelude.{Err}
use Rattle.dos_world.specs.World.{World, Thread, thread_at, entry_at, ready_threads, with_thread}
use Rattle.dos_world.specs.World.{with_budget}
use Rattle.dos_world.specs.Reach.{grant}
use Rattle.dos_world.specs.Kernel.{process_ended, posted}
use Rattle.dos_world.specs.Calls.{Service, Served, went, waits, yields, gone, call_of}
use Rattle.dos_world.specs.Services.{service_of, service}
use Rattle.dos_world.specs.Signals.{signal_turn, signalled, ripen}
use Rattle.dos_world.specs.declared.Access.{Access}
use Rattle.dos_world.specs.declared.Entry.{Entry}
use Rattle.dos_world.specs.declared.Post.{Post}
use Rattle.dos_world.specs.declared.Question.{Question}
use Rattle.dos_world.specs.declared.Question.TheVariants.{Signals}
use Rattle.dos_world.specs.declared.Reason.TheVariants.{Fault}
use Rattle.flat_machine.specs.Step.{step}
use Rattle.flat_machine.specs.Alone.{alone, emptied}
use Rattle.flat_machine.specs.Rest.{process_of, rest_of, serial_of}
use Rattle.flat_machine.specs.Round.{RoundEnd, finished, stalled, parallel, counted, begun_by}
use Rattle.flat_machine.specs.Round.{round_by}
use Rattle.flat_machine.specs.Round.{went as went_on}
use Rattle.round_core.specs.Protocol.{Protocol, Allows}

-- what holds, by those threads and in a world
abbrev pub Holds : Type 1
Holds = List ℕ → World → Type 0

-- ---- what it owes

-- After its part a thread is none of those that still have one; where it goes on, it is the first.
abbrev pub LeavesServed : Holds → ℕ → List ℕ → Served → Type 0
LeavesServed I t ts (went w) = I (t ∷ ts) w
LeavesServed I t ts (waits w) = I ts w
LeavesServed I t ts (yields w) = I ts w
LeavesServed I t ts (gone w) = I ts w

-- a service: whoever has its part calls it
abbrev pub ServiceKeeps : Protocol → Holds → Service → Type 0
ServiceKeeps protocol I one =
    (ts : List ℕ) (w : World) (t : ℕ) (thread : Thread) → thread_at w t ≡ Some thread
    → I (t ∷ ts) w → Allows protocol (LeavesServed I t ts) (one (call_of w t thread))

pub record Keeps (protocol : Protocol) (I : Holds) : Type 0 where
  -- an instruction of any thread, and the reservation that a part begins without
  pub steps_kept : (ts : List ℕ) (w next : World) (t : ℕ)
      → step w t ≡ Ok next → I ts w → I ts next
  pub emptied_kept : (ts : List ℕ) (w : World) (t : ℕ) → I ts w → I ts (emptied w t)
  -- the budget of a thread, and the phases' beginning
  pub budget_kept : (ts : List ℕ) (w : World) (t : ℕ)
      → I ts w → I ts (with_thread w t (with_budget w.quantum))
  pub begins : (w : World) → I [] w → I (ready_threads w) w
  -- a part that is over, or has nobody
  pub passes : (ts : List ℕ) (w : World) (t : ℕ) → I (t ∷ ts) w → I ts w
  -- a page of t's that is granted
  pub grant_kept : (ts : List ℕ) (w : World) (t address : ℕ) (access : Access) (e : Entry)
      → entry_at w t address ≡ Some e → I ts w → I ts (grant w t e.frame access)
  -- the end by a fault
  pub fault_kept : (ts : List ℕ) (w : World) (t number : ℕ)
      → step w t ≡ Err (Fault number) → I (t ∷ ts) w
      → I ts (process_ended w (process_of w t) (128 + number))
  -- each service, and the refusal of a number without one
  pub served : (number : ℕ) → ServiceKeeps protocol I (service_of number)
  -- a post, a thread's turn at the signal point, and who waits no longer
  pub post_kept : (w : World) (post : Post)
      → protocol.posts post → I [] w → I [] (posted w post.pid post.signal)
  pub turn_kept : (w : World) (t : ℕ) → I [] w → I [] (signal_turn w t)
  pub ripen_kept : (w : World) → I [] w → I [] (ripen w)

-- ---- what is kept then

-- what a round's end leaves: before a round more is counted, if one was run
abbrev pub LeavesEnd : (World → Type 0) → RoundEnd → Type 0
LeavesEnd J (went_on w work) = (last : World) × (w ≡ counted last) × J last
LeavesEnd J (finished w) = J w
LeavesEnd J (stalled w) = J w

-- this parallel phase keeps it
abbrev pub PhaseKeeps : Holds → (World → World) → Type 0
PhaseKeeps I phase = (ts : List ℕ) (w : World) → I ts w → I ts (phase w)

pub record IsInvariant (protocol : Protocol) (I : Holds) : Type 0 where
  -- a thread's quantum by itself, and the parallel phase
  pub alone_kept : (ts : List ℕ) (w : World) (t : ℕ) → I ts w → I ts (alone w t)
  pub parallel_kept : PhaseKeeps I parallel
  -- what a7 names, a thread's serial part, and the serial phase of these threads
  pub service_kept : (ts : List ℕ) (w : World) (t : ℕ)
      → I (t ∷ ts) w → Allows protocol (LeavesServed I t ts) (service w t)
  pub rest_kept : (ts : List ℕ) (w : World) (t : ℕ)
      → I (t ∷ ts) w → Allows protocol (I ts) (rest_of w t)
  pub serial_kept : (ts : List ℕ) (w : World) → I ts w → Allows protocol (I []) (serial_of w ts)
  -- the signal point
  pub signals_kept : (w : World) (posts : List Post)
      → All protocol.posts posts → I [] w → I [] (signalled w posts)
  -- what follows the signal point, with any parallel phase that keeps it
  pub phases_kept : (phase : World → World) → PhaseKeeps I phase → (w : World) → I [] w
      → Allows protocol (LeavesEnd (I [])) (begun_by phase w)
  -- a round with such a phase, where it may ask for its signals
  pub round_kept : (phase : World → World) → PhaseKeeps I phase → (w : World)
      → protocol.may (Signals (w.rounds + 1)) w.output w.error → I [] w
      → Allows protocol (LeavesEnd (I [])) (round_by phase w)

-- ---- a run

-- a world of a run with this quantum, after so many rounds
abbrev pub IsOf : ℕ → ℕ → World → Type 0
IsOf quantum rounds w = (w.quantum ≡ quantum) × (w.rounds ≡ rounds)

-- Each question may be asked.
abbrev pub MayAsk : Protocol → Type 0
MayAsk protocol =
    (question : Question) (output error : List ℕ) → protocol.may question output error
