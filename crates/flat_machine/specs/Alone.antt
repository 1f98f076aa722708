-- The parallel part of one thread. This project's own profile.
use Rattle.std.specs.Prelude.{ℕ, zero, suc, Some, None, Ok, Err}
use Rattle.dos_world.specs.World.{World, thread_at, with_registers, released}
use Rattle.flat_machine.specs.Step.{step}

-- how many instructions t may still run in this round
abbrev pub budget_of : World → ℕ → ℕ
budget_of w t = elim (thread_at w t) [ None ↦ 0 | Some thread ↦ thread.budget ]

-- A part begins with no reservation.
abbrev pub emptied : World → ℕ → World
emptied w t = with_registers w t released

-- at most this many instructions of t, until it stops
abbrev pub steps : ℕ → World → ℕ → World
steps zero w t = w
steps (suc n) w t = elim (step w t) [ Ok next ↦ steps n next t | Err reason ↦ w ]

-- The part: instructions of t until it stops or its budget is 0. Each costs one of the budget, so
-- the budget is what bounds them.
abbrev pub alone : World → ℕ → World
alone w t = steps (budget_of w t) (emptied w t) t
