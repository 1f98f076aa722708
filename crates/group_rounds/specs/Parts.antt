-- A thread's part in a round, over the kernel's state. This project's own rules.
use Rattle.std.specs.Prelude.{ℕ, ◌≡◌, ◌+◌, ◌-◌, ◌*◌, ◌<◌, List, length, sum_by, Option, Some, Err}
use Rattle.std.specs.Prelude.{MatchOption, ◌⊎◌, Bool, true, false}
use Rattle.dos_world.specs.World.{World, Thread}
use Rattle.dos_world.specs.Play.{Play, done}
use Rattle.dos_world.specs.declared.Reason.{Reason}
use Rattle.flat_machine.specs.Step.{step}
use Rattle.flat_machine.specs.Alone.{budget_of}
use Rattle.flat_machine.specs.Laws.{after_steps}
use Rattle.round_core.specs.Granting.{grants_needed}
use Rattle.flat_machine.specs.Rest.{turns}
use Rattle.proc_table.specs.Tables.{thread_in}
use Rattle.quantum_run.specs.ThreadRuns.{StartsElsewhere, is_stop_at}
use Rattle.kernel_calls.specs.StateWorld.{world_of, sent}
use Rattle.kernel_calls.specs.declared.state.State.{State}
use Rattle.kernel_calls.specs.declared.state.Served.{Served}
use Rattle.kernel_calls.specs.declared.state.Served.TheVariants.{Went, Waits, Yields, Gone}

-- there are as many frames as before
abbrev pub KeepsCount : State → State → Type 0
KeepsCount old new = length new.frames.owners ≡ length old.frames.owners

-- t's budget in a state
abbrev pub budget_in : State → ℕ → ℕ
budget_in s t = budget_of (world_of 0 s) t

-- how many instructions these threads did between two states, each for one of its budget
abbrev pub work_between : State → State → List ℕ → ℕ
work_between old new ts = sum_by (budget_in old) ts - sum_by (budget_in new) ts

-- From the old state t did so many instructions, each for one of its budget and none of which
-- stopped, and now its next instruction stops for this reason; or its budget is 0.
pub record RanPart (old : State) (t : ℕ) (new : State) (reason : Option Reason) : Type 0 where
  pub count : ℕ
  pub paid : budget_in old t ≡ count + budget_in new t
  pub runs : (q : ℕ) (o e : List ℕ)
      → after_steps count (sent o e (world_of q old)) t ≡ Some (sent o e (world_of q new))
  pub stops : MatchOption reason (budget_in new t ≡ 0)
      (λ r. (0 < budget_in new t)
      × ((q : ℕ) (o e : List ℕ) → step (sent o e (world_of q new)) t ≡ Err r))

-- t lives at one of these addresses
abbrev pub IsAtOneOf : (addresses : List ℕ) → State → ℕ → Type 0
IsAtOneOf addresses s t = MatchOption (thread_in s.table.threads t) ⊥
    (λ (thread : Thread). is_stop_at addresses thread.registers.pc ≡ true)

-- The same, each of them at none of these addresses; or it is at one of them now.
pub record RanUpTo (addresses : List ℕ) (old : State) (t : ℕ) (new : State) (reason : Option Reason)
    : Type 0 where
  pub count : ℕ
  pub paid : budget_in old t ≡ count + budget_in new t
  pub runs : (q : ℕ) (o e : List ℕ)
      → after_steps count (sent o e (world_of q old)) t ≡ Some (sent o e (world_of q new))
  pub elsewhere : (q : ℕ) (o e : List ℕ)
      → StartsElsewhere addresses count (sent o e (world_of q old)) t
  pub stops : MatchOption reason ((budget_in new t ≡ 0) ⊎ IsAtOneOf addresses new t)
      (λ r. (0 < budget_in new t)
      × ((q : ℕ) (o e : List ℕ) → step (sent o e (world_of q new)) t ≡ Err r))

-- whether a thread's part goes on after a service
abbrev pub goes_on_after : Served → Bool
goes_on_after Went = true
goes_on_after Waits = false
goes_on_after Yields = false
goes_on_after Gone = false

-- t's turns, as many as its budget allows
abbrev pub turns_left : ℕ → World → Play World
turns_left t w = turns (budget_of w t) w t

-- t's turns from here on, where its part goes on; else it is over
abbrev pub part_left : ℕ → Bool → World → Play World
part_left t true w = turns_left t w
part_left t false w = done w

-- ---- what bounds a part

-- It falls with each instruction, service and grant of t: no instruction needs more than three
-- grants.
abbrev pub part_measure : State → ℕ → ℕ
part_measure s t = 4 * budget_in s t + grants_needed 3 (world_of 0 s) t
