-- What an operation does with a form's fields, for a form of that operation.
use Rattle.std.proofs.Common.{ℕ, ◌≡◌, sym, subst}
use Rattle.dos_world.specs.World.{Registers, with_pc}
use Rattle.dos_world.specs.declared.Reason.{Reason}
use Rattle.rv_form.specs.Forms.{instr_of}
use Rattle.rv_form.specs.declared.form.Op.{Op}
use Rattle.rv_form.specs.declared.form.Form.{Form}
use Rattle.flat_machine.specs.Effect.{Effect, goes, loads, stores, claims, stops}
use Rattle.rv_exec.specs.Instruction.{Settles, Performs, effect_by, effect_of_form}
use Rattle.flat_machine.specs.Over.{MemoryAnswers}
use Rattle.rv_exec.specs.Arrivals.{SettlesAt, SettlesBy, PerformsAt, PerformsBy}
use Rattle.rv_exec.specs.Arrivals.{arrived_by, shortened, went}
use Rattle.rv_exec.specs.declared.Went.{Went}
use Rattle.rv_exec.specs.declared.next.Next.{Next}
use Rattle.rv_exec.specs.declared.next.Next.TheVariants.{On, Short, To, Not}

-- the effect of an operation with these fields
abbrev pub effect_of_op : Op → Form → Registers → Effect
effect_of_op op form r = effect_by (instr_of op form.rd form.rs1 form.rs2 form.imm) r

-- what makes no access leaves every memory as it is
left : {Fixed M : Type 0} (answers : Fixed → MemoryAnswers M) (shows : Fixed → M → Type 0)
    (r after : Registers) (answer : Went) (e : Effect) → Settles answer r after e
    → Performs answers shows shows r after answer e
left answers shows r after answer (goes r') settles =
    λ f m shown. record { went_is = settles.0; registers = settles.1; memory = shown }
left answers shows r after answer (stops reason) settles =
    λ f m shown. record { went_is = settles.0; registers = settles.1; memory = shown }
left answers shows r after answer (loads address size next) settles = absurd settles
left answers shows r after answer (stores address size value r') settles = absurd settles
left answers shows r after answer (claims address next new) settles = absurd settles

module _ (form : Form) (op : Op) (is : form.op ≡ op) (pc : ℕ) (r after : Registers) (next : Next)
    (why : Reason) (size : ℕ) where
  pub settles_by : SettlesBy size pc next why r after (effect_of_op op form)
      → SettlesBy size pc next why r after (effect_of_form form)
  settles_by does =
      subst (λ (o : Op). SettlesBy size pc next why r after (effect_of_op o form)) (sym is) does

  pub performed_by : {Fixed M : Type 0} (answers : Fixed → MemoryAnswers M)
      (old new : Fixed → M → Type 0)
      → PerformsBy answers old new size pc r after next why (effect_of_op op form)
      → PerformsBy answers old new size pc r after next why (effect_of_form form)
  performed_by answers old new does =
      subst (λ (o : Op). PerformsBy answers old new size pc r after next why (effect_of_op o form))
      (sym is) does

  pub settled_by : {Fixed M : Type 0} (answers : Fixed → MemoryAnswers M)
      (shows : Fixed → M → Type 0)
      → SettlesBy size pc next why r after (effect_of_op op form)
      → PerformsBy answers shows shows size pc r after next why (effect_of_form form)
  settled_by answers shows does =
      performed_by answers shows shows
      (left answers shows (with_pc r pc) (arrived_by size after pc next) (went next why)
      (effect_of_op op form (with_pc r pc)) does)

-- of four bytes
module _ (form : Form) (op : Op) (is : form.op ≡ op) (pc : ℕ) (r after : Registers) (next : Next)
    (why : Reason) where
  pub settles : SettlesAt pc next why r after (effect_of_op op form)
      → SettlesAt pc next why r after (effect_of_form form)
  settles does = settles_by form op is pc r after next why 4 does

  pub performed : {Fixed M : Type 0} (answers : Fixed → MemoryAnswers M)
      (old new : Fixed → M → Type 0)
      → PerformsAt answers old new pc r after next why (effect_of_op op form)
      → PerformsAt answers old new pc r after next why (effect_of_form form)
  performed answers old new does =
      performed_by form op is pc r after next why 4 answers old new does

  pub settled : {Fixed M : Type 0} (answers : Fixed → MemoryAnswers M) (shows : Fixed → M → Type 0)
      → SettlesAt pc next why r after (effect_of_op op form)
      → PerformsAt answers shows shows pc r after next why (effect_of_form form)
  settled answers shows does = settled_by form op is pc r after next why 4 answers shows does

-- of two bytes: what leads on by two bytes leads on by a short one
module _ (form : Form) (op : Op) (is : form.op ≡ op) (pc : ℕ) (r after : Registers)
    (next result : Next) (why : Reason) (on : result ≡ shortened next) where
  settles_next : (e : Registers → Effect) (n : Next) → SettlesBy 2 pc n why r after e
      → SettlesAt pc (shortened n) why r after e
  settles_next e On does = does
  settles_next e Short does = does
  settles_next e (To target) does = does
  settles_next e Not does = does

  pub settles_short : SettlesBy 2 pc next why r after (effect_of_op op form)
      → SettlesAt pc result why r after (effect_of_form form)
  settles_short does = settles form op is pc r after result why
      (subst (λ (n : Next). SettlesAt pc n why r after (effect_of_op op form)) (sym on)
      (settles_next (effect_of_op op form) next does))

  performs_next : {Fixed M : Type 0} (answers : Fixed → MemoryAnswers M)
      (old new : Fixed → M → Type 0) (e : Registers → Effect) (n : Next)
      → PerformsBy answers old new 2 pc r after n why e
      → PerformsAt answers old new pc r after (shortened n) why e
  performs_next answers old new e On does = does
  performs_next answers old new e Short does = does
  performs_next answers old new e (To target) does = does
  performs_next answers old new e Not does = does

  pub performs_short : {Fixed M : Type 0} (answers : Fixed → MemoryAnswers M)
      (old new : Fixed → M → Type 0)
      → PerformsBy answers old new 2 pc r after next why (effect_of_op op form)
      → PerformsAt answers old new pc r after result why (effect_of_form form)
  performs_short answers old new does = performed form op is pc r after result why answers old new
      (subst (λ (n : Next). PerformsAt answers old new pc r after n why (effect_of_op op form))
      (sym on) (performs_next answers old new (effect_of_op op form) next does))
