-- The parallel phase with its instructions in any order. This project's own.
use Rattle.std.specs.Prelude.{ℕ, ◌≡◌, ◌⊎◌, ◌&&◌, not, List, fold, is_err, IsTrue, Contains, ◌==◌}
use Rattle.std.specs.Prelude.{if◌then◌else◌}
use Rattle.std.specs.Result.{result_unwrap_or}
use Rattle.dos_world.specs.World.{World, thread_at, ready_threads, is_state}
use Rattle.dos_world.specs.declared.ThreadState.TheVariants.{Ready}
use Rattle.flat_machine.specs.Step.{step}
use Rattle.flat_machine.specs.Alone.{budget_of, emptied}

-- one instruction of t, where it is ready, has budget and doesn't stop
abbrev pub stepped : World → ℕ → World
stepped w t =
    if is_state Ready (thread_at w t) && not (budget_of w t == 0) then result_unwrap_or (step w t) w
    else w

-- The ready threads begin with no reservation, and then the members of s have an instruction each.
abbrev pub mixed : World → List ℕ → World
mixed w s = fold stepped (fold emptied w (ready_threads w)) s

-- In the end each ready thread has budget 0 or stops.
abbrev pub IsFull : World → List ℕ → Type 0
IsFull w s = (t : ℕ) → Contains (ready_threads w) t
    → (budget_of (mixed w s) t ≡ 0) ⊎ IsTrue (is_err (step (mixed w s) t))
