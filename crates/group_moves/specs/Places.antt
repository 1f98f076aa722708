-- Whose turn it is within a round, and what happens there without a move. This project's own rule.
use Rattle.std.specs.Prelude.{ℕ, Bool, List, [], ◌∷◌, is_none, is_err, ◌==◌, ◌||◌, if◌then◌else◌}
use Rattle.dos_world.specs.World.{World, thread_at}
use Rattle.dos_world.specs.declared.Ending.{Ending}
use Rattle.flat_machine.specs.Step.{step}
use Rattle.flat_machine.specs.Alone.{budget_of, emptied}
use Rattle.flat_machine.specs.Round.{counted}

-- No round runs; or these threads have their parts of a phase still before them, in this order; or
-- one of them is at its part, and others come behind it; or the run has ended. A round under way
-- has its starters.
pub data Place : Type 0 where
  between_rounds : Place
  before_parts before_rests : (starters threads : List ℕ) → Place
  within_part within_rest : (starters : List ℕ) → (thread : ℕ) → (threads : List ℕ) → Place
  at_end : Ending → Place

-- a world, and whose turn it is in it
abbrev pub Scene : Type 0
Scene = World × Place

-- ---- the serial phase

-- t's part of the serial phase is over: t is gone, or its budget is 0
abbrev pub is_rest_over : World → ℕ → Bool
is_rest_over w t = is_none (thread_at w t) || budget_of w t == 0

-- Who lives and comes to the front begins with no reservation. Behind the last the round is
-- counted.
abbrev pub to_rests : World → List ℕ → List ℕ → Scene
to_rests w starters [] = (counted w, between_rounds)
to_rests w starters (t ∷ ts) =
    if is_none (thread_at w t) then to_rests w starters ts else
    if is_rest_over (emptied w t) t then to_rests (emptied w t) starters ts
    else (emptied w t, within_rest starters t ts)

-- ---- the parallel phase

-- t's part of the parallel phase is over: its budget is 0, or it stops
abbrev pub is_part_over : World → ℕ → Bool
is_part_over w t = budget_of w t == 0 || is_err (step w t)

-- Who comes to the front begins with no reservation. Behind the last the serial phase begins.
abbrev pub to_parts : World → List ℕ → List ℕ → Scene
to_parts w starters [] = to_rests w starters starters
to_parts w starters (t ∷ ts) =
    if is_part_over (emptied w t) t then to_parts (emptied w t) starters ts
    else (emptied w t, within_part starters t ts)

-- ---- what happens without a move: parts that are over are left behind

abbrev pub passed_on : World → Place → Scene
passed_on w between_rounds = (w, between_rounds)
passed_on w (before_parts starters threads) = to_parts w starters threads
passed_on w (before_rests starters threads) = to_rests w starters threads
passed_on w (within_part starters t ts) =
    if is_part_over w t then to_parts w starters ts else (w, within_part starters t ts)
passed_on w (within_rest starters t ts) =
    if is_rest_over w t then to_rests w starters ts else (w, within_rest starters t ts)
passed_on w (at_end ending) = (w, at_end ending)
