-- One instruction over any memory that answers four calls; a step is this over the flat world. This
-- project's own way to put the manual's instructions.
use Rattle.std.specs.Prelude.{ℕ, ◌+◌, ◌%◌, ◌^◌, Option, Some, None, Result, Ok, Err, ◌==◌}
use Rattle.std.specs.Prelude.{if◌then◌else◌}
use Rattle.dos_world.specs.World.{World, Registers}
use Rattle.dos_world.specs.declared.Size.{Size}
use Rattle.dos_world.specs.declared.Size.TheVariants.{Word}
use Rattle.dos_world.specs.declared.Reason.{Reason}
use Rattle.dos_world.specs.declared.Reason.TheVariants.{Fault}
use Rattle.rv_isa.specs.declared.Instr.{Instr}
use Rattle.flat_machine.specs.Effect.{Effect, goes, loads, stores, claims, stops, effect}
use Rattle.flat_machine.specs.Step.{◌>>=◌, half_at, load_at, store_at, claim_at, whole_word}
use Rattle.flat_machine.specs.Step.{lone_half}

-- ---- any memory

-- what a memory of type M answers; a store gives the memory after it
pub record MemoryAnswers (M : Type 0) : Type 0 where
  pub fetch : M → ℕ → Result ℕ Reason
  pub load : M → ℕ → Size → Result ℕ Reason
  pub store : M → ℕ → Size → ℕ → Result M Reason
  pub claim : M → ℕ → Result ℕ Reason

-- the instruction at pc, and its size in bytes
abbrev pub instruction_in : {M : Type 0} → MemoryAnswers M → M → ℕ
    → Result (Option Instr × ℕ) Reason
instruction_in answers m pc = do
  low ← answers.fetch m pc
  if low % 4 == 3 then (answers.fetch m ((pc + 2) % 2 ^ 32)
      >>= λ high. Ok (whole_word low high)) else Ok (lone_half low)

-- a word stored, where there is one
abbrev pub store_if : {M : Type 0} → MemoryAnswers M → M → ℕ → Option ℕ → Result M Reason
store_if answers m address None = Ok m
store_if answers m address (Some word) = answers.store m address Word word

-- registers and memory after an effect, or the reason for a stop
abbrev pub effect_in : {M : Type 0} → MemoryAnswers M → M → Effect → Result (Registers × M) Reason
effect_in answers m (goes r) = Ok (r, m)
effect_in answers m (loads address size next) = do
  n ← answers.load m address size
  Ok (next n, m)
effect_in answers m (stores address size value r) = do
  after ← answers.store m address size value
  Ok (r, after)
effect_in answers m (claims address next new) = do
  old ← answers.claim m address
  after ← store_if answers m address (new old)
  Ok (next old, after)
effect_in answers m (stops reason) = Err reason

-- one instruction: registers and memory, or the reason for a stop
abbrev pub one_in : {M : Type 0} → MemoryAnswers M → Registers → M → Result (Registers × M) Reason
one_in answers r m = do
  found ← instruction_in answers m r.pc
  elim found.0 [ None ↦ Err (Fault 4) | Some instr ↦ effect_in answers m (effect instr found.1 r) ]

-- ---- the flat world as t's memory

-- all four answers
abbrev pub world_answers : ℕ → MemoryAnswers World
world_answers t = record {
  fetch = λ w address. half_at w t address;
  load = λ w address size. load_at w t address size;
  store = λ w address size value. store_at w t address size value;
  claim = λ w address. claim_at w t address;
}
