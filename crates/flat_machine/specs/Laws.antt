-- Laws of one instruction and of a thread's part of a round, and the words that they are said in.
-- The functions of `laws` in the crate round_core promise them.
use Rattle.std.specs.Prelude.{ℕ, zero, suc, ◌≡◌, ◌≢◌, ◌⊎◌, ◌+◌, ◌/◌, List, length, Option, Some}
use Rattle.std.specs.Prelude.{None}
use Rattle.std.specs.Prelude.{Result, Ok, Err, option_map, slice_index}
use Rattle.dos_world.specs.World.{World, Thread, Registers, owner_of, thread_at, entry_at, blank}
use Rattle.dos_world.specs.declared.Entry.{Entry}
use Rattle.dos_world.specs.declared.Owner.TheVariants.{Free, Shared, Of}
use Rattle.dos_world.specs.declared.Reason.{Reason}
use Rattle.flat_machine.specs.Step.{step, paid, ◌>>=◌}
use Rattle.flat_machine.specs.Over.{one_in, world_answers}
use Rattle.flat_machine.specs.Alone.{steps, alone}

-- ---- one instruction

-- t leaves the owners, and each byte of a frame that isn't t's
pub record LeavesOthers (t : ℕ) (old new : World) : Type 0 where
  pub owners : new.owners ≡ old.owners
  pub bytes : (i : ℕ) → owner_of old (i / 4096) ≢ Of t
      → slice_index new.bytes i ≡ slice_index old.bytes i

-- An instruction changes no owner, and no byte of a frame that isn't its thread's.
abbrev pub StepsKeep : Type 0
StepsKeep = (w w' : World) (t : ℕ) → step w t ≡ Ok w' → LeavesOthers t w w'

-- t pays for these registers in this world
abbrev pub pays : ℕ → Registers × World → Result World Reason
pays t x = Ok (paid x.1 t x.0)

-- A step of a thread that lives is one instruction over the flat world as its memory, and one of
-- its budget.
abbrev pub StepsAreOneOverTheWorld : Type 0
StepsAreOneOverTheWorld = (w : World) (t : ℕ) (thread : Thread) → thread_at w t ≡ Some thread
    → step w t ≡ (one_in (world_answers t) thread.registers w >>= pays t)

-- A thread that stops goes on to stop, for the same reason, after a step of another thread.
abbrev pub StopsStay : Type 0
StopsStay = (w w' : World) (s t : ℕ) (reason : Reason) → t ≢ s → step w s ≡ Ok w'
    → step w t ≡ Err reason → step w' t ≡ Err reason

-- Instructions of two threads, of which neither stops, lead to the same world in either order.
abbrev pub StepsCommute : Type 0
StepsCommute = (w w1 w2 : World) (s t : ℕ) → t ≢ s → step w s ≡ Ok w1 → step w t ≡ Ok w2
    → (last : World) × (step w1 t ≡ Ok last) × (step w2 s ≡ Ok last)

-- Two worlds that t can't tell apart: they differ in bytes alone, and in none of t's frames and of
-- the Shared ones.
pub record AreAlike (t : ℕ) (w u : World) : Type 0 where
  pub bytes : List ℕ
  pub is : u ≡ record w { bytes = bytes }
  pub count : length bytes ≡ length w.bytes
  -- no mapped frame is Free
  pub mapped : (a : ℕ) (e : Entry) → entry_at w t a ≡ Some e → owner_of w e.frame ≢ Free
  pub kept : (i : ℕ) → (owner_of w (i / 4096) ≡ Of t) ⊎ (owner_of w (i / 4096) ≡ Shared)
      → slice_index bytes i ≡ slice_index w.bytes i

-- What a thread does is the same in worlds that it can't tell apart.
abbrev pub StepsStay : Type 0
StepsStay = (t : ℕ) (w u w' : World) → AreAlike t w u → step w t ≡ Ok w'
    → (u' : World) × (step u t ≡ Ok u') × AreAlike t w' u'

-- ---- a thread's part

-- what a thread keeps beside its memory
abbrev pub kept : Thread → Registers × ℕ
kept thread = (thread.registers, thread.budget)

-- a thread without its registers and its budget
abbrev pub without_progress : Thread → Thread
without_progress thread = record thread { registers = blank 0; budget = 0 }

-- Two worlds differ at most in t's registers, t's budget and the bytes of frames that are t's.
pub record DiffersInOwn (t : ℕ) (old new : World) : Type 0 where
  pub owners : new.owners ≡ old.owners
  pub count : length new.bytes ≡ length old.bytes
  pub bytes : (i : ℕ) → owner_of old (i / 4096) ≢ Of t
      → slice_index new.bytes i ≡ slice_index old.bytes i
  pub processes : new.processes ≡ old.processes
  pub others : (s : ℕ) → s ≢ t → thread_at new s ≡ thread_at old s
  pub thread : option_map without_progress (thread_at new t)
      ≡ option_map without_progress (thread_at old t)
  pub pipes : new.pipes ≡ old.pipes
  pub sleepers : new.sleepers ≡ old.sleepers
  pub rounds : new.rounds ≡ old.rounds
  pub quantum : new.quantum ≡ old.quantum
  pub output : new.output ≡ old.output
  pub error : new.error ≡ old.error

-- The parallel part of a thread changes no more than that.
abbrev pub PartsChangeTheirOwn : Type 0
PartsChangeTheirOwn = (w : World) (t : ℕ) → DiffersInOwn t w (alone w t)

-- the world after so many instructions of t; None where one of them stops
abbrev pub after_steps : ℕ → World → ℕ → Option World
after_steps zero w t = Some w
after_steps (suc n) w t = elim (step w t) [ Ok next ↦ after_steps n next t | Err reason ↦ None ]

-- What at most n + m instructions do, the rest does from where the first n led.
abbrev pub StepsGoOn : Type 0
StepsGoOn = (n m : ℕ) (w w' : World) (t : ℕ) → after_steps n w t ≡ Some w'
    → steps (n + m) w t ≡ steps m w' t

-- A thread that stops stays where it is.
abbrev pub StopsEndSteps : Type 0
StopsEndSteps = (m : ℕ) (w : World) (t : ℕ) (reason : Reason) → step w t ≡ Err reason
    → steps m w t ≡ w
