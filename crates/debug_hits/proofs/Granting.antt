-- What an instruction touches whose pages are granted as it needs them, and where all are granted.
use Rattle.std.proofs.Common.{◌≡◌, ◌⊎◌, inl, inr, ℕ, zero, suc, refl, sym, ap, ◌∙◌, Option, Some}
use Rattle.std.proofs.Common.{None, Result, Ok, Err, IfSome, List}
use Rattle.dos_world.specs.World.{World, Thread, Registers, thread_at}
use Rattle.dos_world.specs.declared.Reason.{Reason}
use Rattle.dos_world.specs.declared.Reason.TheVariants.{Page, Fault, Service}
use Rattle.rv_isa.specs.declared.Instr.{Instr}
use Rattle.rv_isa.specs.declared.Instr.TheVariants.{Upper, Jal, Jalr, Branch, Load, Store, Imm}
use Rattle.rv_isa.specs.declared.Instr.TheVariants.{Shift, Reg, Amo, Fence, Ecall, Ebreak}
use Rattle.flat_machine.specs.Effect.{Effect, goes, loads, stores, claims, stops, effect}
use Rattle.flat_machine.specs.Step.{◌>>=◌, step, step_of, step_by, instruction_at}
use Rattle.flat_machine.specs.Rest.{settled, page_granted}
use Rattle.round_core.specs.Laws.{MapsWithin}
use Rattle.round_core.proofs.Grants.{three-are-enough}
use Rattle.group_walk.specs.Needs.{all_granted, instructions_of}
use Rattle.group_walk.proofs.Granted.{IsPage, granted_again, instruction-granted}
use Rattle.group_walk.proofs.Stopping.{all_within}
use Rattle.group_rounds.proofs.ThreadRunLaws.{Seen, seen, registers_is}
use Rattle.kernel_calls.specs.StateWorld.{IsSound, sent, world_of}
use Rattle.kernel_calls.specs.declared.state.State.{State}
use Rattle.proc_table.specs.Tables.{IsLiveThread, thread_in}
use Rattle.debug_session.specs.Accesses.{Touch, touch_by, touch_found, touch_of, touch_of_thread}

-- ---- the world that grants lead to

-- what a step gives there, and that it is the same world but for owners
record IsSettled (n : ℕ) (w : World) (t : ℕ) : Type 0 where
  step : (settled n w t).1 ≡ step (settled n w t).0 t
  owners : all_granted t (settled n w t).0 ≡ all_granted t w

abbrev after : ℕ → World → ℕ → Result World Reason → World × Result World Reason
after n w t r = elim r [
  | Ok next ↦ (w, Ok next)
  | Err reason ↦ elim reason [
    | Page address access ↦ settled n (page_granted w t address access) t
    | Fault number ↦ (w, Err (Fault number))
    | Service ↦ (w, Err Service)
  ]
]

is_settled : (n : ℕ) (w : World) (t : ℕ) → IsSettled n w t
is_settled zero w t = record { step = refl; owners = refl }
is_settled (suc n) w t = go (λ next. is_settled n next t) (step w t) refl
  where
    go : ((next : World) → IsSettled n next t) → (r : Result World Reason) → step w t ≡ r
        → IsSettled (suc n) w t
    go each (Ok next) is =
        let here : settled (suc n) w t ≡ (w, Ok next) = ap (after n w t) is in
        record {
          step = ap (λ x. x.1) here ∙ sym is ∙ ap (λ (x : World × Result World Reason). step x.0 t)
              (sym here);
          owners = ap (λ (x : World × Result World Reason). all_granted t x.0) here;
        }
    go each (Err (Page address access)) is =
        let next : World = page_granted w t address access in
        let here : settled (suc n) w t ≡ settled n next t = ap (after n w t) is in
        record {
          step = ap (λ x. x.1) here ∙ (each next).step
              ∙ ap (λ (x : World × Result World Reason). step x.0 t) (sym here);
          owners = ap (λ (x : World × Result World Reason). all_granted t x.0) here
              ∙ (each next).owners ∙ granted_again w t address access;
        }
    go each (Err (Fault number)) is =
        let here : settled (suc n) w t ≡ (w, Err (Fault number)) = ap (after n w t) is in
        record {
          step = ap (λ x. x.1) here ∙ sym is ∙ ap (λ (x : World × Result World Reason). step x.0 t)
              (sym here);
          owners = ap (λ (x : World × Result World Reason). all_granted t x.0) here;
        }
    go each (Err Service) is =
        let here : settled (suc n) w t ≡ (w, Err Service) = ap (after n w t) is in
        record {
          step = ap (λ x. x.1) here ∙ sym is ∙ ap (λ (x : World × Result World Reason). step x.0 t)
              (sym here);
          owners = ap (λ (x : World × Result World Reason). all_granted t x.0) here;
        }

-- ---- what is touched doesn't depend on owners

module _ (v : World) (t p : ℕ) where
  by_same : (instr : Instr) (e : Effect)
      → touch_by v p instr e ≡ touch_by (all_granted t v) p instr e
  by_same instr (goes r) = refl
  by_same instr (loads address size next) = refl
  by_same instr (stores address size value r) = refl
  by_same (Upper auipc rd imm) (claims address next new) = refl
  by_same (Jal rd offset) (claims address next new) = refl
  by_same (Jalr rd rs1 offset) (claims address next new) = refl
  by_same (Branch op rs1 rs2 offset) (claims address next new) = refl
  by_same (Load op rd rs1 offset) (claims address next new) = refl
  by_same (Store op rs1 rs2 offset) (claims address next new) = refl
  by_same (Imm op rd rs1 imm) (claims address next new) = refl
  by_same (Shift op rd rs1 amount) (claims address next new) = refl
  by_same (Reg op rd rs1 rs2) (claims address next new) = refl
  by_same (Amo op rd rs1 rs2 aq rl) (claims address next new) = refl
  by_same (Fence fetch rd rs1 imm) (claims address next new) = refl
  by_same Ecall (claims address next new) = refl
  by_same Ebreak (claims address next new) = refl
  by_same instr (stops reason) = refl

found_same : (v : World) (t : ℕ) (thread : Thread) (x : Result (Option Instr × ℕ) Reason)
    → touch_found v thread x ≡ touch_found (all_granted t v) thread x
found_same v t thread (Ok (Some instr, size)) =
    by_same v t thread.process instr (effect instr size thread.registers)
found_same v t thread (Ok (None, size)) = refl
found_same v t thread (Err reason) = refl

-- where a step doesn't stop at a page
thread_same : (v : World) (t : ℕ) → (IsPage (step v t) → ⊥)
    → touch_of_thread v t (thread_at v t) ≡ touch_of_thread (all_granted t v) t (thread_at v t)
thread_same v t never = by (thread_at v t) refl
  where
    by : (o : Option Thread) → thread_at v t ≡ o
        → touch_of_thread v t o ≡ touch_of_thread (all_granted t v) t o
    by None is = refl
    by (Some thread) is = at (instruction-granted v t thread.registers.pc)
      where
        at : (IsPage (instruction_at v t thread.registers.pc))
            ⊎ (instruction_at v t thread.registers.pc
            ≡ instruction_at (all_granted t v) t thread.registers.pc)
            → touch_found v thread (instruction_at v t thread.registers.pc)
            ≡ touch_found (all_granted t v) thread
            (instruction_at (all_granted t v) t thread.registers.pc)
        at (inl page) = absurd (never (record {
          address = page.address;
          access = page.access;
          is = ap (step_of v t) is ∙ ap (λ x. x >>= step_by v t thread.registers) page.is;
        }))
        at (inr same) =
            found_same v t thread (instruction_at v t thread.registers.pc)
            ∙ ap (touch_found (all_granted t v) thread) same

pub touch_granted : (w : World) (t : ℕ) → MapsWithin w t
    → touch_of w t ≡ touch_of_thread (all_granted t w) t (thread_at w t)
touch_granted w t within =
    let x : IsSettled 3 w t = is_settled 3 w t in
    thread_same (settled 3 w t).0 t (λ page. three-are-enough w t within page.address page.access
    (x.step ∙ page.is))
    ∙ ap (λ v. touch_of_thread v t (thread_at v t)) x.owners

-- ---- by what is found

module _ (w : World) (t : ℕ) (thread : Thread) (within : MapsWithin w t)
    (there : thread_at w t ≡ Some thread) where
  found_there : (x : Result (Option Instr × ℕ) Reason)
      → instruction_at (all_granted t w) t thread.registers.pc ≡ x
      → touch_of w t ≡ touch_found (all_granted t w) thread x
  found_there x is =
      touch_granted w t within ∙ ap (touch_of_thread (all_granted t w) t) there
      ∙ ap (touch_found (all_granted t w) thread) is

  pub none_fetched : (reason : Reason)
      → instructions_of (instruction_at (all_granted t w) t thread.registers.pc) ≡ Err reason
      → touch_of w t ≡ None
  none_fetched reason is =
      by (instruction_at (all_granted t w) t thread.registers.pc) is
      (found_there (instruction_at (all_granted t w) t thread.registers.pc) refl)
    where
      by : (x : Result (Option Instr × ℕ) Reason) → instructions_of x ≡ Err reason
          → touch_of w t ≡ touch_found (all_granted t w) thread x → touch_of w t ≡ None
      by (Ok found) e touches = cc
      by (Err other) e touches = touches

  pub none_meant :
      instructions_of (instruction_at (all_granted t w) t thread.registers.pc) ≡ Ok None
      → touch_of w t ≡ None
  none_meant is =
      by (instruction_at (all_granted t w) t thread.registers.pc) is
      (found_there (instruction_at (all_granted t w) t thread.registers.pc) refl)
    where
      by : (x : Result (Option Instr × ℕ) Reason) → instructions_of x ≡ Ok None
          → touch_of w t ≡ touch_found (all_granted t w) thread x → touch_of w t ≡ None
      by (Ok (None, size)) e touches = touches
      by (Ok (Some instr, size)) e touches = cc
      by (Err other) e touches = cc

  pub touch_meant : (instr : Instr) (touch : Option Touch)
      → instructions_of (instruction_at (all_granted t w) t thread.registers.pc)
      ≡ Ok (Some instr)
      → ((v : World) (p size : ℕ) → touch_by v p instr (effect instr size thread.registers) ≡ touch)
      → touch_of w t ≡ touch
  touch_meant instr touch is touches =
      by (instruction_at (all_granted t w) t thread.registers.pc) is
      (found_there (instruction_at (all_granted t w) t thread.registers.pc) refl)
    where
      by : (x : Result (Option Instr × ℕ) Reason) → instructions_of x ≡ Ok (Some instr)
          → touch_of w t ≡ touch_found (all_granted t w) thread x → touch_of w t ≡ touch
      by (Ok (None, size)) e found = cc
      by (Ok (Some other, size)) e found =
          let same : other ≡ instr = cc in
          found
          ∙ ap (λ i. touch_by (all_granted t w) thread.process i (effect i size thread.registers))
          same
          ∙ touches (all_granted t w) thread.process size
      by (Err other) e found = cc

-- ---- of a thread of a state

module _ (s : State) (t : ℕ) (sound : IsSound s) (live : IsLiveThread s.table.threads t)
    (r : Registers) (pc : ℕ)
    (r-is : IfSome (thread_in s.table.threads t) (λ thread. r ≡ thread.registers))
    (pc-is : pc ≡ r.pc) (q : ℕ) (output error : List ℕ) where
  abbrev pub there_now : World
  there_now = sent output error (world_of q s)

  abbrev here : Seen s t
  here = seen s t sound live

  registers : r ≡ here.thread.registers
  registers = registers_is s t sound live r r-is

  found_at : (x : Result (Option Instr) Reason)
      → instructions_of (instruction_at (all_granted t there_now) t pc) ≡ x
      → instructions_of (instruction_at (all_granted t there_now) t here.thread.registers.pc)
      ≡ x
  found_at x found =
      ap (λ a. instructions_of (instruction_at (all_granted t there_now) t a))
      (sym (pc-is ∙ ap (λ (x : Registers). x.pc) registers))
      ∙ found

  pub not_fetched_here : (reason : Reason)
      → instructions_of (instruction_at (all_granted t there_now) t pc) ≡ Err reason
      → touch_of there_now t ≡ None
  not_fetched_here reason found =
      none_fetched there_now t here.thread (all_within s t sound q output error) here.is reason
      (found_at (Err reason) found)

  pub meaningless_here :
      instructions_of (instruction_at (all_granted t there_now) t pc) ≡ Ok None
      → touch_of there_now t ≡ None
  meaningless_here found =
      none_meant there_now t here.thread (all_within s t sound q output error) here.is
      (found_at (Ok None) found)

  pub touching_here : (instr : Instr) (touch : Option Touch)
      → instructions_of (instruction_at (all_granted t there_now) t pc) ≡ Ok (Some instr)
      → ((v : World) (p size : ℕ) → touch_by v p instr (effect instr size r) ≡ touch)
      → touch_of there_now t ≡ touch
  touching_here instr touch found touches =
      touch_meant there_now t here.thread (all_within s t sound q output error) here.is instr touch
      (found_at (Ok (Some instr)) found)
      (λ v p size. ap (λ x. touch_by v p instr (effect instr size x)) (sym registers)
      ∙ touches v p size)

-- what is so is so of each
pub each_so : {A : Type 0} (o : Option A) (P : Type 0) → P → IfSome o (λ _. P)
each_so None P p = tt
each_so (Some x) P p = p
