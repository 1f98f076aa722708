-- Instructions by the lines that are known of a page of code.
use Rattle.std.proofs.Common.{ℕ, ◌+◌, ◌%◌, ◌^◌, ◌≡◌}
use Rattle.std.proofs.Common.{refl, sym, ap, ◌∙◌, subst, Bool, true, Option, Some, ℤ}
use Rattle.std.proofs.Common.{Result, Ok}
use Rattle.dos_world.specs.World.{Registers, get, set, with_pc}
use Rattle.dos_world.specs.declared.Size.{Size}
use Rattle.dos_world.specs.declared.Reason.{Reason}
use Rattle.dos_world.specs.declared.Reason.TheVariants.{Service}
use Rattle.rv_isa.specs.declared.Instr.{Instr}
use Rattle.rv_isa.specs.declared.Instr.TheVariants.{Load, Store}
use Rattle.rv_isa.specs.declared.LoadOp.{LoadOp}
use Rattle.rv_isa.specs.declared.StoreOp.{StoreOp}
use Rattle.rv_form.specs.declared.form.Form.{Form}
use Rattle.rv_form.specs.declared.form.Op.{Op}
use Rattle.rv_form.specs.Forms.{IsFormOf, instr_of, instr_of_form}
use Rattle.code_pages.specs.declared.kind.Kind.{Kind}
use Rattle.code_pages.specs.Kinds.{IsOfKind, instr_of_kind}
use Rattle.flat_machine.specs.Effect.{Effect, goes, loads, stores, claims, stops, effect}
use Rattle.flat_machine.specs.Effect.{load_result, load_size, plus, store_size}
use Rattle.flat_machine.specs.Over.{MemoryAnswers, effect_in, one_in}
use Rattle.flat_machine.specs.Step.{◌>>=◌}
use Rattle.rv_exec.specs.Follows.{Follows, word_in}
use Rattle.rv_exec.specs.Instruction.{Settles, Performs, effect_by, effect_of_form}
use Rattle.rv_exec.specs.Arrivals.{SettlesBy, arrived_by}
use Rattle.rv_exec.specs.declared.Went.{Went}
use Rattle.rv_exec.specs.declared.Went.TheVariants.{Step, Stop}
use Rattle.rv_exec.specs.declared.next.Next.{Next}
use Rattle.rv_exec.specs.declared.next.Next.TheVariants.{On, Short, To, Not}
use Rattle.rv_exec.proofs.ByForm.{of_form}
use Rattle.rv_exec.proofs.Whole.{one_word}
use Rattle.quantum_run.specs.Flying.{DoneOrNot}
use Rattle.quantum_run.specs.Showing.{StoresOrNot}

-- ---- an instruction that is done, or isn't

Stop≢Step : (reason : Reason) → Stop reason ≡ Step → ⊥
Stop≢Step reason q = cc

module _ {Fixed M : Type 0} (answers : Fixed → MemoryAnswers M) (shows : Fixed → M → Type 0)
    (size pc : ℕ) (r after : Registers) where
  -- what makes no access leaves every memory as it is
  performs : (next : Next) (answer : Went) (e : Effect)
      → Settles answer (with_pc r pc) (arrived_by size after pc next) e
      → Performs answers shows shows (with_pc r pc) (arrived_by size after pc next) answer e
  performs next answer (goes r') settles =
      λ f m shown. record { went_is = settles.0; registers = settles.1; memory = shown }
  performs next answer (stops reason) settles =
      λ f m shown. record { went_is = settles.0; registers = settles.1; memory = shown }
  performs next answer (loads address n to) settles = absurd settles
  performs next answer (stores address n value r') settles = absurd settles
  performs next answer (claims address to new) settles = absurd settles

  stays : (why : Reason) (e : Effect) → Settles (Stop why) (with_pc r pc) (with_pc after pc) e
      → with_pc after pc ≡ with_pc r pc
  stays why (goes r') settles = absurd (Stop≢Step why settles.0)
  stays why (stops reason) settles = settles.1
  stays why (loads address n to) settles = absurd settles
  stays why (stores address n value r') settles = absurd settles
  stays why (claims address to new) settles = absurd settles

  pub settled : (next : Next) (why : Reason) (e : Registers → Effect)
      → SettlesBy size pc next why r after e → DoneOrNot answers shows shows size pc r after next e
  settled On why e does = performs On Step (e (with_pc r pc)) does
  settled Short why e does = performs Short Step (e (with_pc r pc)) does
  settled (To target) why e does = performs (To target) Step (e (with_pc r pc)) does
  settled Not why e does = (stays why (e (with_pc r pc)) does, λ f m shown. shown)

-- by what a form stands for
pub of-kind : {Fixed M : Type 0} (answers : Fixed → MemoryAnswers M)
    (old new : Fixed → M → Type 0) (size pc : ℕ) (r after : Registers) (next : Next) (form : Form)
    (instr : Instr) (n : ℕ)
    → instr_of_form form ≡ Some (instr, n)
    → DoneOrNot answers old new size pc r after next (effect instr n)
    → DoneOrNot answers old new size pc r after next (effect_of_form form)
of-kind answers old new size pc r after next form instr n is does =
    subst (λ (p : Option (Instr × ℕ)).
    DoneOrNot answers old new size pc r after next (λ x. effect_by p x)) (sym is) does

Some-pair : (a b : Instr) (m n : ℕ)
    → ◌≡◌ {A = Option (Instr × ℕ)} (Some (a, m)) (Some (b, n)) → (a ≡ b) × (m ≡ n)
Some-pair a b m n same =
    let pair : ◌≡◌ {A = Instr × ℕ} (a, m) (b, n) = cc in (ap (λ p. p.0) pair, ap (λ p. p.1) pair)

-- what a form stands for, of whichever size
pub of-instr : {Fixed M : Type 0} (answers : Fixed → MemoryAnswers M)
    (old new : Fixed → M → Type 0) (pc : ℕ) (r after : Registers) (next : Next) (form : Form)
    (own : Instr) (own_size : ℕ)
    → instr_of_form form ≡ Some (own, own_size)
    → ((size : ℕ) → DoneOrNot answers old new size pc r after next (effect own size))
    → (instr : Instr) (size : ℕ) → instr_of_form form ≡ Some (instr, size)
    → DoneOrNot answers old new size pc r after next (effect instr size)
of-instr answers old new pc r after next form own own_size is does instr size other =
    let same = Some-pair own instr own_size size (sym is ∙ other) in
    subst (λ (i : Instr). DoneOrNot answers old new size pc r after next (effect i size)) same.0
    (does size)

-- ---- from an instruction by its line to one over the answers

pub one-by-form : {M : Type 0} (answers : MemoryAnswers M) (shows : M → Type 0) (pc : ℕ)
    (r left : Registers) (form : Form) (u : M) (code : ℕ) → IsFormOf code form
    → word_in answers u pc ≡ Ok code
    → Follows shows u (with_pc r pc) left Step
    (effect_in answers u (effect_of_form form (with_pc r pc)))
    → Follows shows u (with_pc r pc) left Step (one_in answers (with_pc r pc) u)
one-by-form {M} answers shows pc r left form u code of is does =
    subst (λ (o : Result (Registers × M) Reason). Follows shows u (with_pc r pc) left Step o)
    (sym (one_word answers u (with_pc r pc) code (sym is)))
    (of_form answers shows u (with_pc r pc) left code form Step of does)

-- ---- by the operation of a form that stands for some instruction

module _ {Fixed M : Type 0} (answers : Fixed → MemoryAnswers M) (old new : Fixed → M → Type 0)
    (form : Form) (op : Op) (is : form.op ≡ op) (own : Instr) (n : ℕ)
    (stands : instr_of op form.rd form.rs1 form.rs2 form.imm ≡ Some (own, n))
    (pc : ℕ) (r after : Registers) (next : Next) where
  pub by-op : ((size : ℕ) → DoneOrNot answers old new size pc r after next (effect own size))
      → (instr : Instr) (size : ℕ) → instr_of_form form ≡ Some (instr, size)
      → DoneOrNot answers old new size pc r after next (effect instr size)
  by-op does = of-instr answers old new pc r after next form own n
      (ap (λ o. instr_of o form.rd form.rs1 form.rs2 form.imm) is ∙ stands) does

-- the same of one that makes no access
pub by-registers : {Fixed M : Type 0} (answers : Fixed → MemoryAnswers M)
    (shows : Fixed → M → Type 0) (form : Form) (op : Op) → form.op ≡ op → (own : Instr) (n : ℕ)
    → instr_of op form.rd form.rs1 form.rs2 form.imm ≡ Some (own, n)
    → (pc : ℕ) (r after : Registers) (next : Next)
    → ((size : ℕ) → SettlesBy size pc next Service r after (effect own size))
    → (instr : Instr) (size : ℕ) → instr_of_form form ≡ Some (instr, size)
    → DoneOrNot answers shows shows size pc r after next (effect instr size)
by-registers answers shows form op is own n stands pc r after next does =
    by-op answers shows shows form op is own n stands pc r after next
    (λ size. settled answers shows size pc r after next Service (effect own size) (does size))

-- ---- by the kind of a line

-- what a line's form stands for, by its kind
pub kind-is : (kind own : Kind) (turned : Bool) (form : Form) (size : ℕ) → kind ≡ own
    → IsOfKind kind turned form size → instr_of_form form ≡ instr_of_kind own turned form size
kind-is kind own turned form size is of =
    subst (λ (k : Kind). IsOfKind k turned form size) is of

module _ {Fixed M : Type 0} (answers : Fixed → MemoryAnswers M) (old new : Fixed → M → Type 0)
    (kind own : Kind) (turned : Bool) (form : Form) (size : ℕ) (is : kind ≡ own)
    (of : IsOfKind kind turned form size) (instr : Instr)
    (stands : instr_of_kind own turned form size ≡ Some (instr, size)) (pc : ℕ)
    (r after : Registers) (next : Next) where
  pub by-kind : DoneOrNot answers old new size pc r after next (effect instr size)
      → DoneOrNot answers old new size pc r after next (effect_of_form form)
  by-kind does = of-kind answers old new size pc r after next form instr size
      (kind-is kind own turned form size is of ∙ stands) does

pub by-settling : {Fixed M : Type 0} (answers : Fixed → MemoryAnswers M)
    (shows : Fixed → M → Type 0) (kind own : Kind) (turned : Bool) (form : Form) (size : ℕ) → kind ≡
    own
    → IsOfKind kind turned form size → (instr : Instr)
    → instr_of_kind own turned form size ≡ Some (instr, size) → (pc : ℕ)
    (r after : Registers) (next : Next) (why : Reason)
    → SettlesBy size pc next why r after (effect instr size)
    → DoneOrNot answers shows shows size pc r after next (effect_of_form form)
by-settling answers shows kind own turned form size is of instr stands pc r after next why does =
    by-kind answers shows shows kind own turned form size is of instr stands pc r after next
    (settled answers shows size pc r after next why (effect instr size) does)

-- ---- loads and stores that find their page

pub loaded : {Fixed M : Type 0} (answers : Fixed → MemoryAnswers M) (shows : Fixed → M → Type 0)
    (op : LoadOp) (rd rs1 : ℕ) (imm : ℤ) (address number value : ℕ) (width : Size)
    (r after : Registers) → address ≡ plus (get r rs1) imm → width ≡ load_size op
    → ((f : Fixed) (m : M) → shows f m → (answers f).load m address width ≡ Ok number)
    → value ≡ load_result op number → ((p : ℕ) → with_pc after p ≡ set (with_pc r p) rd value)
    → (size pc : ℕ)
    → DoneOrNot answers shows shows size pc r after On (effect (Load op rd rs1 imm) size)
unfolding effect
loaded {Fixed} {M} answers shows op rd rs1 imm address number value width r after to wide reads is
    put
    size pc =
    λ f m shown.
    let there : (answers f).load m (plus (get r rs1) imm) (load_size op) ≡ Ok number =
    ap (λ a. (answers f).load m a (load_size op)) (sym to)
    ∙ ap ((answers f).load m address) (sym wide) ∙ reads f m shown in
    let behind : ℕ = (pc + size) % 2 ^ 32 in
    subst (λ (o : Result ℕ Reason). Follows (shows f) m (with_pc r pc) (with_pc after behind) Step
    (o >>= λ n. Ok (set (with_pc r behind) rd (load_result op n), m))) (sym there)
    (record {
      went_is = refl;
      registers = put behind ∙ ap (set (with_pc r behind) rd) is;
      memory = shown;
    })

pub stored : {Fixed M : Type 0} (answers : Fixed → MemoryAnswers M) (old new : Fixed → M → Type 0)
    (op : StoreOp) (rs1 rs2 : ℕ) (imm : ℤ) (address value : ℕ) (width : Size) (r : Registers)
    (done : Bool) → address ≡ plus (get r rs1) imm → width ≡ store_size op → value ≡ get r rs2
    → done ≡ true
    → ((f : Fixed) (m : M) → old f m
    → StoresOrNot done ((answers f).store m address width value) m (new f))
    → (size pc : ℕ) → DoneOrNot answers old new size pc r r On (effect (Store op rs1 rs2 imm) size)
unfolding effect
stored {Fixed} {M} answers old new op rs1 rs2 imm address value width r done to wide is holds does
    size pc =
    λ f m shown.
    let came : StoresOrNot true ((answers f).store m address width value) m (new f) =
    subst (λ b. StoresOrNot b ((answers f).store m address width value) m (new f)) holds
    (does f m shown) in
    let there : (answers f).store m (plus (get r rs1) imm) (store_size op) (get r rs2) ≡ Ok came.0 =
    ap (λ a. (answers f).store m a (store_size op) (get r rs2)) (sym to)
    ∙ ap (λ s. (answers f).store m address s (get r rs2)) (sym wide)
    ∙ ap ((answers f).store m address width) (sym is) ∙ came.1 in
    let behind : ℕ = (pc + size) % 2 ^ 32 in
    subst (λ (o : Result M Reason). Follows (new f) m (with_pc r pc) (with_pc r behind) Step
    (o >>= λ u. Ok (with_pc r behind, u))) (sym there)
    (record { went_is = refl; registers = refl; memory = came.2 })
