-- The moves of a run in the ownership scheme: the begin of a round, an instruction, a service, a
-- fault. This project's own rule.
use Rattle.std.specs.Prelude.{ℕ, ◌+◌, List, Option, Some, None, Result, Ok, Err, ◌||◌}
use Rattle.std.specs.Prelude.{nat_le, if◌then◌else◌}
use Rattle.dos_world.specs.World.{World, live_threads, ready_threads}
use Rattle.dos_world.specs.Signals.{signalled, ripen}
use Rattle.dos_world.specs.Play.{Play, Answer, done, ask, ◌>>=◌, posts_of}
use Rattle.dos_world.specs.declared.Ending.TheVariants.{Done, Stalled}
use Rattle.dos_world.specs.declared.Question.TheVariants.{Signals}
use Rattle.dos_world.specs.declared.Reason.{Reason}
use Rattle.dos_world.specs.declared.Reason.TheVariants.{Page, Fault, Service}
use Rattle.flat_machine.specs.Step.{step}
use Rattle.flat_machine.specs.Rest.{Turn, on, over_with, settled, turn}
use Rattle.flat_machine.specs.Round.{is_none_of, with_budgets}
use Rattle.group_moves.specs.Places.{Place, between_rounds, before_parts, before_rests, within_part}
use Rattle.group_moves.specs.Places.{within_rest, at_end, Scene}

-- ---- which move it is

-- A round begins; or a thread runs an instruction, is served, or faults with a number.
pub data MoveKind : Type 0 where
  begins : MoveKind
  runs is_served : (thread : ℕ) → MoveKind
  faults : (thread number : ℕ) → MoveKind

-- What a thread does in the serial phase. A stop at a page can't be left over; it would end the
-- part, as a service that waits does.
abbrev pub kind_by : ℕ → Result World Reason → MoveKind
kind_by t (Ok next) = runs t
kind_by t (Err (Page address access)) = is_served t
kind_by t (Err (Fault number)) = faults t number
kind_by t (Err Service) = is_served t

-- The move that is next after so many rounds have begun, where nothing happens without one; none
-- behind the last round.
abbrev pub next_kind : (limit begun : ℕ) → World → Place → Option MoveKind
next_kind limit begun w between_rounds =
    if is_none_of (live_threads w) || nat_le limit begun then None else Some begins
next_kind limit begun w (within_part starters t ts) = Some (runs t)
next_kind limit begun w (within_rest starters t ts) = Some (kind_by t (settled 3 w t).1)
next_kind limit begun w _ = None

-- ---- what it does

-- The begin of a round, its signal point done: the ready threads have the quantum as their budget.
abbrev pub begun_scene : World → Scene
begun_scene w =
    if is_none_of (live_threads w) then (w, at_end Done)
    else if is_none_of (ready_threads w) then (w, at_end Stalled)
    else (with_budgets w (ready_threads w), before_parts (ready_threads w) (ready_threads w))

-- the same behind the shim's answer
abbrev pub answered_scene : World → Answer → Scene
answered_scene w answer = begun_scene (ripen (signalled w (posts_of answer)))

abbrev pub begin_of : World → Play Scene
begin_of w = ask (Signals (w.rounds + 1)) w.output w.error
    (λ answer. done (answered_scene w answer))

-- An instruction of the parallel phase. Where it stops, nothing is done.
abbrev pub part_step : List ℕ → ℕ → List ℕ → World → Result World Reason → Scene
part_step starters t ts w (Ok next) = (next, within_part starters t ts)
part_step starters t ts w (Err reason) = (w, within_part starters t ts)

-- A turn of the serial phase, with the grants before it. Where the part is over in it, the next
-- thread comes.
abbrev pub rest_turn : List ℕ → ℕ → List ℕ → Turn → Scene
rest_turn starters t ts (on next) = (next, within_rest starters t ts)
rest_turn starters t ts (over_with last) = (last, before_rests starters ts)

-- the move that is next
abbrev pub move_of : World → Place → Play Scene
move_of w between_rounds = begin_of w
move_of w (within_part starters t ts) =
    done (part_step starters t ts w (step w t))
move_of w (within_rest starters t ts) =
    turn w t >>= λ taken. done (rest_turn starters t ts taken)
move_of w place = done (w, place)
