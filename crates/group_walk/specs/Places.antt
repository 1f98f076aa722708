-- Where a walk stands among the starters of a round. This project's own words.
use Rattle.std.specs.Prelude.{ℕ, suc, ◌+◌, List, [], ◌∷◌, drop, ⊤, Bool, true, false}
use Rattle.group_moves.specs.Places.{Place, between_rounds, before_parts, before_rests, within_part}
use Rattle.group_moves.specs.Places.{within_rest, at_end, Scene, to_parts, to_rests}
use Rattle.dos_world.specs.World.{World}
use Rattle.group_walk.specs.declared.walker.Phase.{Phase}
use Rattle.group_walk.specs.declared.walker.Phase.TheVariants.{Between, Parallel, Serial, Ended}

-- the first of these is at its part of the parallel phase
abbrev pub at_part : (starters left : List ℕ) → Place
at_part starters [] = before_parts starters []
at_part starters (t ∷ ts) = within_part starters t ts

-- or of the serial phase
abbrev pub at_rest : (starters left : List ℕ) → Place
at_rest starters [] = before_rests starters []
at_rest starters (t ∷ ts) = within_rest starters t ts

-- in this phase, with the starter at this index at its part
abbrev pub place_at : Phase → (starters : List ℕ) → (index : ℕ) → Place
place_at Between starters index = between_rounds
place_at Parallel starters index = at_part starters (drop index starters)
place_at Serial starters index = at_rest starters (drop index starters)
place_at (Ended ending) starters index = at_end ending

-- the phase of a place
abbrev pub phase_at : Place → Phase
phase_at between_rounds = Between
phase_at (before_parts starters threads) = Parallel
phase_at (within_part starters t ts) = Parallel
phase_at (before_rests starters threads) = Serial
phase_at (within_rest starters t ts) = Serial
phase_at (at_end ending) = Ended ending

-- ---- who comes to the front

-- where the serial phase goes on from a thread at its front: at its part, where it has a turn there
abbrev pub rest_scene : (has_turn : Bool) → (starters : List ℕ) → (t : ℕ) → (ts : List ℕ) → World
    → Scene
rest_scene true starters t ts w = (w, within_rest starters t ts)
rest_scene false starters t ts w = to_rests w starters ts

-- and where the parallel phase does
abbrev pub part_scene : (has_instruction : Bool) → (starters : List ℕ) → (t : ℕ) → (ts : List ℕ)
    → World → Scene
part_scene true starters t ts w = (w, within_part starters t ts)
part_scene false starters t ts w = to_parts w starters ts

-- ---- moves

-- the run hasn't ended
abbrev pub HasMove : Phase → Type 0
HasMove (Ended ending) = ⊥
HasMove _ = ⊤

-- ---- numbers

-- how many rounds have begun, and how many moves were made since the last of them did, behind a
-- move in this phase
abbrev pub numbers_behind : Phase → (begun made : ℕ) → ℕ × ℕ
numbers_behind Between begun made = (begun + 1, 0)
numbers_behind _ begun made = (begun, suc made)
