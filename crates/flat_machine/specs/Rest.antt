-- The serial part of one thread, and the serial phase. This project's own profile.
use Rattle.std.specs.Prelude.{ℕ, zero, suc, ◌+◌, List, [], ◌∷◌, Option, Some, None, is_some, Result}
use Rattle.std.specs.Prelude.{Ok, Err, if◌then◌else◌}
use Rattle.dos_world.specs.World.{World, thread_at, entry_at}
use Rattle.dos_world.specs.Reach.{grant}
use Rattle.dos_world.specs.Kernel.{process_ended}
use Rattle.dos_world.specs.Services.{Served, went, waits, yields, gone, service}
use Rattle.dos_world.specs.Play.{Play, Answer, Outcome, done, ◌>>=◌, over}
use Rattle.dos_world.specs.declared.Access.{Access}
use Rattle.dos_world.specs.declared.Entry.{Entry}
use Rattle.dos_world.specs.declared.Reason.{Reason}
use Rattle.dos_world.specs.declared.Reason.TheVariants.{Page, Fault, Service}
use Rattle.flat_machine.specs.Step.{step}
use Rattle.flat_machine.specs.Alone.{budget_of, emptied}

-- ---- one instruction, its pages granted

-- the frame of an entry granted, where there is one
abbrev pub granted_by : World → ℕ → Access → Option Entry → World
granted_by w t access None = w
granted_by w t access (Some e) = grant w t e.frame access

-- The frame that t maps at an address is granted. A grant costs nothing.
abbrev pub page_granted : World → ℕ → ℕ → Access → World
page_granted w t address access = granted_by w t access (entry_at w t address)

-- t's instruction after at most this many grants: the world that they leave, and what a step gives
-- there
abbrev pub settled : ℕ → World → ℕ → World × Result World Reason
settled zero w t = (w, step w t)
settled (suc n) w t =
    elim (step w t) [
      | Ok next ↦ (w, Ok next)
      | Err reason ↦ elim reason [
        | Page address access ↦ settled n (page_granted w t address access) t
        | Fault number ↦ (w, Err (Fault number))
        | Service ↦ (w, Err Service)
      ]
    ]

-- ---- one turn: an instruction, a service, or the end by a fault

-- the part goes on in this world, or is over in it
pub data Turn : Type 0 where
  on over_with : World → Turn

-- The part is over where the thread waits, yields or is gone.
abbrev pub after_service : Served → Turn
after_service (went w) = on w
after_service (waits w) = over_with w
after_service (yields w) = over_with w
after_service (gone w) = over_with w

-- the same, for a play
abbrev pub service_done : Served → Play Turn
service_done served = done (after_service served)

-- the process of t
abbrev pub process_of : World → ℕ → ℕ
process_of w t = elim (thread_at w t) [ None ↦ 0 | Some thread ↦ thread.process ]

-- A fault ends the thread's process with 128 plus its number, and an ecall is served. A stop at a
-- page can't be left over; it would end the part.
abbrev pub after_step : ℕ → World → Result World Reason → Play Turn
after_step t w (Ok next) = done (on next)
after_step t w (Err (Page address access)) = done (over_with w)
after_step t w (Err (Fault number)) =
    done (over_with (process_ended w (process_of w t) (128 + number)))
after_step t w (Err Service) = service w t >>= service_done

-- No instruction needs more than three grants: two for the pages that it lies in, one for its data.
abbrev pub turn : World → ℕ → Play Turn
turn w t = let s : World × Result World Reason = settled 3 w t in after_step t s.0 s.1

-- ---- the part, and the phase

-- at most this many turns; each that goes on costs one of the budget, so the budget is what bounds
-- them
abbrev pub turns : ℕ → World → ℕ → Play World
turns zero w t = done w
turns (suc n) w t =
    turn w t >>= λ taken. elim taken [ on next ↦ turns n next t | over_with last ↦ done last ]

-- t's serial part: with no reservation, until its budget is 0 or it waits, yields or is gone
abbrev pub rest_of : World → ℕ → Play World
rest_of w t = turns (budget_of w t) (emptied w t) t

-- the same over a list of answers of the shim
abbrev pub rest : World → ℕ → List Answer → Outcome World
rest w t answers = over answers (rest_of w t)

-- t's part, where it still lives
abbrev pub rest_if_live : World → ℕ → Play World
rest_if_live w t = if is_some (thread_at w t) then rest_of w t else done w

-- these threads, one after another
abbrev pub serial_of : World → List ℕ → Play World
serial_of w [] = done w
serial_of w (t ∷ ts) = rest_if_live w t >>= λ next. serial_of next ts

-- the same over a list of answers of the shim
abbrev pub serial : World → List ℕ → List Answer → Outcome World
serial w starters answers = over answers (serial_of w starters)
