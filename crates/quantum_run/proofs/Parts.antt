-- A run is a part.
use Rattle.std.proofs.Common.{ℕ, suc, ◌+◌, ◌-◌, ◌<◌, ◌≤◌, ◌≡◌, ◌⊎◌, inl, inr, true, is_some, refl}
use Rattle.std.proofs.Common.{sym, ap, ◌∙◌, subst, List, [], Option, Some, None, option_map, Ok}
use Rattle.std.proofs.Common.{Err, arith}
use Rattle.std.specs.Prelude.{MatchOption}
use Rattle.dos_world.specs.World.{World, Thread, Registers, thread_at, space_of, registers_by}
use Rattle.dos_world.specs.World.{released}
use Rattle.dos_world.specs.declared.Entry.{Entry}
use Rattle.dos_world.specs.declared.Reason.{Reason}
use Rattle.page_store.specs.Store.{Store, joined}
use Rattle.flat_machine.specs.Step.{step}
use Rattle.flat_machine.specs.Laws.{kept}
use Rattle.flat_machine.proofs.Threads.{of_kept}
use Rattle.flat_machine.specs.Alone.{steps, emptied, budget_of}
use Rattle.quantum_run.specs.Laws.{RunsAreParts}
use Rattle.quantum_run.specs.Shows.{thread_space}
use Rattle.quantum_run.specs.ThreadRuns.{IsRunOf, run_to}
use Rattle.flat_machine.specs.Laws.{after_steps}
use Rattle.flat_machine.proofs.After.{same-after, steps-ok, steps-stopped}
use Rattle.flat_machine.proofs.Threads.{seen-changed, ran-twice}

-- what the end of a run says of the world that it ends in: the budget has come down to the floor,
-- or the next instruction stops
abbrev pub Stops : ℕ → World → ℕ → ℕ → Option Reason → Type 0
Stops floor w t left None = left ≡ floor
Stops floor w t left (Some reason) = step w t ≡ Err reason

space-by : (w : World) (o : Option Thread)
    → (elim o as (λ _. List (ℕ × Entry)) [ None ↦ [] | Some thread ↦ space_of w thread.process ])
    ≡ (elim (option_map (λ x. x.process) o) as (λ _. List (ℕ × Entry)) [
      | None ↦ []
      | Some p ↦ space_of w p
    ])
space-by w None = refl
space-by w (Some thread) = refl

-- a thread without a reservation has the same space
pub emptied-space : (w : World) (t : ℕ) → thread_space (emptied w t) t ≡ thread_space w t
emptied-space w t =
    space-by w (thread_at (emptied w t) t)
    ∙ ap (λ (o : Option ℕ). elim o as (λ _. List (ℕ × Entry)) [ None ↦ [] | Some p ↦ space_of w p ])
    (seen-changed (λ x. x.process) (registers_by released) w.threads t)
    ∙ sym (space-by w (thread_at w t))

-- and its registers and budget
pub emptied-kept : (w : World) (t : ℕ) (r : Registers) (budget : ℕ)
    → option_map kept (thread_at w t) ≡ Some (r, budget)
    → option_map kept (thread_at (emptied w t) t) ≡ Some (released r, budget)
emptied-kept w t r budget h =
    let k = of_kept (thread_at w t) r budget h in
    seen-changed kept (registers_by released) w.threads t
    ∙ ap (option_map (λ x. kept (registers_by released x))) k.1
    ∙ ap (λ x. Some (released x, k.0.budget)) k.2 ∙ ap (λ b. Some (released r, b)) k.3

pub emptied-run : (w : World) (s : Store) (entries : List (ℕ × Entry)) (t : ℕ) (r : Registers)
    (budget : ℕ) → IsRunOf w s entries t r budget
    → IsRunOf (emptied w t) s entries t (released r) budget
emptied-run w s entries t r budget run = record {
  bytes = run.bytes;
  owners = run.owners;
  space = emptied-space w t ∙ run.space;
  thread = emptied-kept w t r budget run.thread;
}

-- What a run does to a count and a world, it does to its budget and what is left of it.
pub run-same : {A : Type 0} (t : ℕ) (F : ℕ → World → A)
    → ((k : ℕ) (u next : World) → step u t ≡ Ok next → F (suc k) u ≡ F k next)
    → (budget left : ℕ) (w v : World) → left ≤ budget → after_steps (budget - left) w t ≡ Some v
    → F budget w ≡ F left v
run-same t F one budget left w v within h =
    let count : budget ≡ (budget - left) + left = omega (arith, within) in
    ap (λ n. F n w) count ∙ same-after t F one (budget - left) left w v h

-- who stopped, or came down to a floor of 0, stopped or has nothing left
pub stops-out : (stop : Option Reason) (floor left t : ℕ) (w : World)
    → (is_some stop ≡ true) ⊎ (floor ≡ 0) → Stops floor w t left stop → Stops 0 w t left stop
stops-out None floor left t w (inl some) at = cc
stops-out None floor left t w (inr none) at = at ∙ none
stops-out (Some reason) floor left t w out at = at

-- who stopped, or has nothing left, runs no further
steps-ended : (w : World) (t left : ℕ) (stop : Option Reason) → Stops 0 w t left stop
    → steps left w t ≡ w
steps-ended w t left None out = ap (λ n. steps n w t) out
steps-ended w t left (Some reason) stopped = steps-stopped left w t reason stopped

-- so a run that came to such an end is what its whole budget does
pub steps-run : (budget left : ℕ) (w v : World) (t : ℕ) (stop : Option Reason) → left ≤ budget
    → after_steps (budget - left) w t ≡ Some v → Stops 0 v t left stop → steps budget w t ≡ v
steps-run budget left w v t stop within h ended =
    run-same t (λ n u. steps n u t) (λ k u next is. steps-ok k u next t is) budget left w v within h
    ∙ steps-ended v t left stop ended

-- what the clause of a run says of one world
pub stops-here : (stop : Option Reason) (floor left t : ℕ) (IsOf : World → Type 0)
    (end : World → World) (w : World) → IsOf w
    → MatchOption stop (left ≡ floor)
    (λ reason. (0 < left) × ((u : World) → IsOf u → step (end u) t ≡ Err reason))
    → Stops floor (end w) t left stop
stops-here None floor left t IsOf end w is out = out
stops-here (Some reason) floor left t IsOf end w is stopped = stopped.1 w is

pub budget-is : (w : World) (t : ℕ) (r : Registers) (budget : ℕ)
    → option_map kept (thread_at w t) ≡ Some (r, budget) → budget_of w t ≡ budget
budget-is w t r budget h = let k = of_kept (thread_at w t) r budget h in
    ap (λ (o : Option Thread). elim o as (λ _. ℕ) [ None ↦ 0 | Some thread ↦ thread.budget ]) k.1
    ∙ k.3

pub run-alone : RunsAreParts
run-alone w s entries t r begun after pages budget left stop run empty within runs stopped =
    let from : IsRunOf (emptied w t) s entries t begun budget =
    subst (λ (x : Registers). IsRunOf (emptied w t) s entries t x budget) (sym empty)
    (emptied-run w s entries t r budget run) in
    let end : World = run_to (emptied w t) t pages after left in
    ap (λ n. steps n (emptied w t) t) (budget-is w t r budget run.thread)
    ∙ steps-run budget left (emptied w t) end t stop within (runs (emptied w t) from)
    (stops-here stop 0 left t (λ u. IsRunOf u s entries t begun budget)
    (λ u. run_to u t pages after left) (emptied w t) from stopped)
    ∙ ap (λ (u : World). record u { bytes = joined pages })
    (ran-twice w t (registers_by released) after left (λ x. refl))
