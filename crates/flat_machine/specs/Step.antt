-- One instruction of a thread on the flat world. The instructions are those of the unprivileged
-- manual; what an access reaches is this project's own.
use Rattle.std.specs.Prelude.{ℕ, ◌+◌, ◌-◌, ◌*◌, ◌%◌, ◌^◌, Option, Some, None, Result, Ok, Err, ◌==◌}
use Rattle.std.specs.Prelude.{if◌then◌else◌}
use Rattle.dos_world.specs.World.{World, Thread, Registers, thread_at, with_thread}
use Rattle.dos_world.specs.Reach.{Reached, fault, foreign, at, reach, width, loaded, stored}
use Rattle.dos_world.specs.Reach.{bytes_of}
use Rattle.dos_world.specs.declared.Access.{Access}
use Rattle.dos_world.specs.declared.Access.TheVariants.{Fetch, Load, Store, Claim}
use Rattle.dos_world.specs.declared.Size.{Size}
use Rattle.dos_world.specs.declared.Size.TheVariants.{Half, Word}
use Rattle.dos_world.specs.declared.Reason.{Reason}
use Rattle.dos_world.specs.declared.Reason.TheVariants.{Page, Fault, Service}
use Rattle.rv_isa.specs.declared.Instr.{Instr}
use Rattle.rv_isa.specs.Meaning.{meaning}
use Rattle.rv_isa.specs.Compressed.{expansion}
use Rattle.flat_machine.specs.Effect.{Effect, goes, loads, stores, claims, stops, effect}

-- ---- one thing and then another, unless the first is a reason to stop

infixl 10 ◌>>=◌
abbrev pub ◌>>=◌ : {A B : Type 0} → Result A Reason → (A → Result B Reason) → Result B Reason
(Ok a) >>= f = f a
(Err reason) >>= f = Err reason

-- ---- what t's accesses give

-- the place of an access, or the reason to stop
abbrev pub place_or_reason : ℕ → Access → Reached → Result ℕ Reason
place_or_reason address access (fault n) = Err (Fault n)
place_or_reason address access (foreign frame) = Err (Page address access)
place_or_reason address access (at place) = Ok place

-- where an access of t goes
abbrev pub reached : World → ℕ → ℕ → Size → Access → Result ℕ Reason
reached w t address size access = place_or_reason address access (reach w t address size access)

-- the halfword that t fetches
abbrev pub half_at : World → ℕ → ℕ → Result ℕ Reason
half_at w t address = do
  place ← reached w t address Half Fetch
  Ok (loaded w place 2)

-- the number that t loads
abbrev pub load_at : World → ℕ → ℕ → Size → Result ℕ Reason
load_at w t address size =
    reached w t address size Load >>= λ place. Ok (loaded w place (width size))

-- the world after a store of t
abbrev pub store_at : World → ℕ → ℕ → Size → ℕ → Result World Reason
store_at w t address size value =
    reached w t address size Store >>= λ place. Ok (stored w place (bytes_of (width size) value))

-- the word that t claims
abbrev pub claim_at : World → ℕ → ℕ → Result ℕ Reason
claim_at w t address = reached w t address Word Claim >>= λ place. Ok (loaded w place 4)

-- ---- the instruction at pc

-- an instruction of four bytes by its two halfwords, the lower first. Section 1.5.
abbrev pub whole_word : ℕ → ℕ → Option Instr × ℕ
whole_word low high = (meaning (low + 2 ^ 16 * high), 4)

-- an instruction of two bytes by its halfword. Section 1.5.
abbrev pub lone_half : ℕ → Option Instr × ℕ
lone_half low = (expansion low, 2)

-- The instruction at pc, where its bytes mean one, and its size in bytes. A halfword whose low two
-- bits aren't 11 is one of two bytes; else it and the next one are the word, which may lie on two
-- pages.
abbrev pub instruction_at : World → ℕ → ℕ → Result (Option Instr × ℕ) Reason
instruction_at w t pc = do
  low ← half_at w t pc
  if low % 4 == 3 then (half_at w t ((pc + 2) % 2 ^ 32) >>= λ high. Ok (whole_word low high)) else
      Ok (lone_half low)

-- ---- the step

-- a thread with these registers and a budget one less
abbrev pub paid_by : Registers → Thread → Thread
paid_by r thread = record thread { registers = r; budget = thread.budget - 1 }

-- the world in which t has paid, and has these registers
abbrev pub paid : World → ℕ → Registers → World
paid w t r = with_thread w t (paid_by r)

-- the world with a word stored at a place, where there is one
abbrev pub with_word : World → ℕ → Option ℕ → World
with_word w place None = w
with_word w place (Some word) = stored w place (bytes_of 4 word)

-- the world after an effect of t, or the reason for a stop
abbrev pub performed : World → ℕ → Effect → Result World Reason
performed w t (goes r) = Ok (paid w t r)
performed w t (loads address size next) = do
  place ← reached w t address size Load
  Ok (paid w t (next (loaded w place (width size))))
performed w t (stores address size value r) = do
  place ← reached w t address size Store
  Ok (paid (stored w place (bytes_of (width size) value)) t r)
performed w t (claims address next new) = do
  place ← reached w t address Word Claim
  Ok (paid (with_word w place (new (loaded w place 4))) t (next (loaded w place 4)))
performed w t (stops reason) = Err reason

-- what t does with what it finds at pc: bytes that mean no instruction are fault 4
abbrev pub step_by : World → ℕ → Registers → Option Instr × ℕ → Result World Reason
step_by w t r found = elim found.0 [
  | None ↦ Err (Fault 4)
  | Some instr ↦ performed w t (effect instr found.1 r)
]

-- a step of t by the thread that it is; who is gone stops
abbrev pub step_of : World → ℕ → Option Thread → Result World Reason
step_of w t None = Err Service
step_of w t (Some thread) = instruction_at w t thread.registers.pc >>= step_by w t thread.registers

-- One instruction of t: the new world, or the reason for a stop, which changes nothing.
abbrev pub step : World → ℕ → Result World Reason
step w t = step_of w t (thread_at w t)
