-- Where an instruction at pc leads, with pc beside the registers and not in them. This project's
-- own words.
use Rattle.std.specs.Prelude.{ℕ, ◌+◌, ◌%◌, ◌^◌}
use Rattle.dos_world.specs.World.{Registers, with_pc}
use Rattle.dos_world.specs.declared.Reason.{Reason}
use Rattle.rv_exec.specs.declared.Went.{Went}
use Rattle.rv_exec.specs.declared.Went.TheVariants.{Step, Stop}
use Rattle.rv_exec.specs.declared.next.Next.{Next}
use Rattle.rv_exec.specs.declared.next.Next.TheVariants.{On, Short, To, Not}
use Rattle.flat_machine.specs.Effect.{Effect}
use Rattle.flat_machine.specs.Over.{MemoryAnswers}
use Rattle.rv_exec.specs.Instruction.{Settles, Performs}

-- The registers with pc where an instruction of this size leads; a short one has two bytes,
-- whatever the size.
abbrev pub arrived_by : ℕ → Registers → ℕ → Next → Registers
arrived_by size r pc On = with_pc r ((pc + size) % 2 ^ 32)
arrived_by size r pc Short = with_pc r ((pc + 2) % 2 ^ 32)
arrived_by size r pc (To target) = with_pc r target
arrived_by size r pc Not = with_pc r pc

-- the same by what it leads to alone: four bytes on, or two
abbrev pub arrived : Registers → ℕ → Next → Registers
arrived r pc next = arrived_by 4 r pc next

-- what leads on by an instruction of two bytes leads on by a short one
abbrev pub shortened : Next → Next
shortened On = Short
shortened Short = Short
shortened (To target) = To target
shortened Not = Not

-- whether it was done, and why not
abbrev pub went : Next → Reason → Went
went On why = Step
went Short why = Step
went (To target) why = Step
went Not why = Stop why

-- The registers old became new by an instruction of this size at pc that makes no access to memory
-- and does this there.
abbrev pub SettlesBy : (size pc : ℕ) → Next → Reason → Registers → Registers
    → (Registers → Effect) → Type 0
SettlesBy size pc next why old new e =
    Settles (went next why) (with_pc old pc) (arrived_by size new pc next) (e (with_pc old pc))

abbrev pub SettlesAt : ℕ → Next → Reason → Registers → Registers → (Registers → Effect) → Type 0
SettlesAt pc next why old new e = SettlesBy 4 pc next why old new e

-- The same by any instruction, on a memory that shows old before and new afterwards.
abbrev pub PerformsBy : {Fixed M : Type 0} → (Fixed → MemoryAnswers M)
    → (old new : Fixed → M → Type 0) → (size pc : ℕ) → (r after : Registers) → Next → Reason
    → (Registers → Effect) → Type 0
PerformsBy answers old new size pc r after next why e = Performs answers old new (with_pc r pc)
    (arrived_by size after pc next) (went next why) (e (with_pc r pc))

abbrev pub PerformsAt : {Fixed M : Type 0} → (Fixed → MemoryAnswers M)
    → (old new : Fixed → M → Type 0) → ℕ → (r after : Registers) → Next → Reason
    → (Registers → Effect) → Type 0
PerformsAt answers old new pc r after next why e =
    PerformsBy answers old new 4 pc r after next why e
