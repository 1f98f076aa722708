-- One instruction by its code. This project's own way to put the manual's instructions.
use Rattle.std.specs.Prelude.{ℕ, ◌≡◌, Option, Some, None}
use Rattle.dos_world.specs.World.{Registers}
use Rattle.dos_world.specs.declared.Reason.TheVariants.{Fault}
use Rattle.rv_isa.specs.declared.Instr.{Instr}
use Rattle.rv_isa.specs.Compressed.{instruction}
use Rattle.rv_form.specs.declared.form.Form.{Form}
use Rattle.rv_form.specs.Forms.{instr_of_form}
use Rattle.flat_machine.specs.Effect.{Effect, goes, loads, stores, claims, stops, effect}
use Rattle.flat_machine.specs.Over.{MemoryAnswers, effect_in}
use Rattle.rv_exec.specs.Follows.{Follows}
use Rattle.rv_exec.specs.declared.Went.{Went}
use Rattle.rv_exec.specs.declared.Went.TheVariants.{Step, Stop}

-- what is done with what a code means, an instruction and its size: a code without a meaning is an
-- illegal instruction, fault 4
abbrev pub effect_by : Option (Instr × ℕ) → Registers → Effect
effect_by None r = stops (Fault 4)
effect_by (Some found) r = effect found.0 found.1 r

-- what a code does, a word of four bytes or a halfword alone
abbrev pub effect_of_code : ℕ → Registers → Effect
effect_of_code code r = effect_by (instruction code) r

-- what a form does
abbrev pub effect_of_form : Form → Registers → Effect
effect_of_form form r = effect_by (instr_of_form form) r

-- The registers old became new with this answer, as an effect says that makes no access to memory.
abbrev pub Settles : Went → Registers → Registers → Effect → Type 0
Settles went old new (goes r) = (went ≡ Step) × (new ≡ r)
Settles went old new (stops reason) = (went ≡ Stop reason) × (new ≡ old)
Settles went old new (loads address size next) = ⊥
Settles went old new (stores address size value r) = ⊥
Settles went old new (claims address next word) = ⊥

-- On a memory that shows old before and new afterwards, for whatever stands still in it and each
-- state of it: what is left of the registers r is what the effect says, by the memory's answers.
abbrev pub Performs : {Fixed M : Type 0} → (Fixed → MemoryAnswers M)
    → (old new : Fixed → M → Type 0) → (r after : Registers) → Went → Effect → Type 0
Performs answers old new r after went e = (f : _) (m : _) → old f m
    → Follows (new f) m r after went (effect_in (answers f) m e)
