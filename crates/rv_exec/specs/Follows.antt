-- What a memory answers, and what one instruction over it leaves. This project's own words.
use Rattle.std.specs.Prelude.{ℕ, ◌≡◌, ◌+◌, ◌*◌, ◌%◌, ◌^◌, Result, Ok, Err, ◌==◌, if◌then◌else◌}
use Rattle.dos_world.specs.World.{Registers}
use Rattle.dos_world.specs.declared.Reason.{Reason}
use Rattle.rv_exec.specs.declared.Went.{Went}
use Rattle.rv_exec.specs.declared.Went.TheVariants.{Step, Stop}
use Rattle.flat_machine.specs.Step.{◌>>=◌}
use Rattle.flat_machine.specs.Over.{MemoryAnswers}

-- ---- two halfwords as one answer, and a store's answer as two

-- the word at pc, or the halfword alone where it is no word's
abbrev pub word_in : {M : Type 0} → MemoryAnswers M → M → ℕ → Result ℕ Reason
word_in answers m pc = answers.fetch m pc
    >>= λ low. if low % 4 == 3 then
    (answers.fetch m ((pc + 2) % 2 ^ 32) >>= λ high. Ok (low + 2 ^ 16 * high)) else Ok low

-- a store's answer without the memory
abbrev pub answer_of_store : {M : Type 0} → Result M Reason → Result (Unit {0}) Reason
answer_of_store (Ok after) = Ok tt
answer_of_store (Err reason) = Err reason

-- the memory that a store leaves
abbrev pub after_of : {M : Type 0} → M → Result M Reason → M
after_of m (Ok after) = after
after_of m (Err reason) = m

-- ---- what one instruction leaves: a stop changes neither registers nor memory

-- whether it stepped
abbrev pub went_of : {M : Type 0} → Result (Registers × M) Reason → Went
went_of (Ok x) = Step
went_of (Err reason) = Stop reason

-- the registers
abbrev pub registers_of : {M : Type 0} → Registers → Result (Registers × M) Reason → Registers
registers_of r (Ok x) = x.0
registers_of r (Err reason) = r

-- the memory
abbrev pub memory_left : {M : Type 0} → M → Result (Registers × M) Reason → M
memory_left m (Ok x) = x.1
memory_left m (Err reason) = m

-- The registers old became new with this answer, and what is left of the memory is shown.
pub record Follows {M : Type 0} (shows : M → Type 0) (m : M) (old new : Registers) (went : Went)
    (o : Result (Registers × M) Reason) : Type 0 where
  pub went_is : went ≡ went_of o
  pub registers : new ≡ registers_of old o
  pub memory : shows (memory_left m o)
