-- From a form at pc to the code at pc.
use Rattle.std.proofs.Common.{◌≡◌, ℕ, refl, ap, ◌∙◌, subst, Option, Some, None, Result}
use Rattle.std.specs.Prelude.{option_map}
use Rattle.dos_world.specs.World.{Registers}
use Rattle.dos_world.specs.declared.Reason.{Reason}
use Rattle.rv_isa.specs.Compressed.{instruction}
use Rattle.rv_isa.specs.declared.Instr.{Instr}
use Rattle.rv_isa.specs.declared.Instr.TheVariants.{Upper, Jal, Jalr, Branch, Load, Store, Imm}
use Rattle.rv_isa.specs.declared.Instr.TheVariants.{Shift, Reg, Amo, Fence, Ecall, Ebreak}
use Rattle.rv_form.specs.declared.form.Form.{Form}
use Rattle.rv_form.specs.Forms.{IsFormOf, plain, plain_sized}
use Rattle.rv_exec.specs.declared.Went.{Went}
use Rattle.flat_machine.specs.Effect.{effect}
use Rattle.rv_exec.specs.Instruction.{effect_by, effect_of_code, effect_of_form}
use Rattle.flat_machine.specs.Over.{MemoryAnswers, effect_in}
use Rattle.rv_exec.specs.Follows.{Follows}

-- what has no effect may be left out
plain_effect : (instr : Instr) (size : ℕ) (r : Registers)
    → effect (plain instr) size r ≡ effect instr size r
unfolding effect
plain_effect (Upper b rd imm) size r = refl
plain_effect (Jal rd offset) size r = refl
plain_effect (Jalr rd rs1 offset) size r = refl
plain_effect (Branch o rs1 rs2 offset) size r = refl
plain_effect (Load o rd rs1 offset) size r = refl
plain_effect (Store o rs1 rs2 offset) size r = refl
plain_effect (Imm o rd rs1 imm) size r = refl
plain_effect (Shift o rd rs1 amount) size r = refl
plain_effect (Reg o rd rs1 rs2) size r = refl
plain_effect (Amo o rd rs1 rs2 aq rl) size r = refl
plain_effect (Fence fetch rd rs1 imm) size r = refl
plain_effect Ecall size r = refl
plain_effect Ebreak size r = refl

by_plain : (o : Option (Instr × ℕ)) (r : Registers)
    → effect_by (option_map plain_sized o) r ≡ effect_by o r
by_plain None r = refl
by_plain (Some found) r = plain_effect found.0 found.1 r

pub form_effect : (code : ℕ) (form : Form) (r : Registers) → IsFormOf code form
    → effect_of_form form r ≡ effect_of_code code r
form_effect code form r of = ap (λ o. effect_by o r) of ∙ by_plain (instruction code) r

pub of_form : {M : Type 0} (answers : MemoryAnswers M) (shows : M → Type 0) (m : M)
    (r after : Registers) (code : ℕ) (form : Form) (answer : Went) → IsFormOf code form
    → Follows shows m r after answer (effect_in answers m (effect_of_form form r))
    → Follows shows m r after answer (effect_in answers m (effect_of_code code r))
of_form {M} answers shows m r after code form answer of follows =
    subst (λ (o : Result (Registers × M) Reason). Follows shows m r after answer o)
    (ap (effect_in answers m) (form_effect code form r of)) follows
