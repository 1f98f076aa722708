-- The moments of a run, one behind each move. This project's own rule.
use Rattle.std.specs.Prelude.{ℕ, zero, suc, ◌+◌, List, [], ◌∷◌, Option, Some, None}
use Rattle.std.specs.Prelude.{if◌then◌else◌}
use Rattle.dos_world.specs.World.{World, live_threads}
use Rattle.dos_world.specs.Play.{Answer, Outcome, gives, asks, over}
use Rattle.dos_world.specs.declared.Config.{Config}
use Rattle.dos_world.specs.declared.Ending.{Ending}
use Rattle.dos_world.specs.declared.Ending.TheVariants.{Done, Limit}
use Rattle.elf_image.specs.Image.{Image}
use Rattle.flat_machine.specs.Opening.{opening}
use Rattle.flat_machine.specs.Round.{is_none_of}
use Rattle.group_moves.specs.Places.{Place, between_rounds, at_end, Scene, passed_on}
use Rattle.group_moves.specs.Moves.{MoveKind, begins, next_kind, move_of}

-- how many rounds have begun, how many moves were made since the last of them did, and the scene
pub record Moment : Type 0 where
  pub begun_rounds : ℕ
  pub made : ℕ
  pub world : World
  pub place : Place

-- after so many rounds and moves, in this scene
abbrev pub moment_at : (begun made : ℕ) → Scene → Moment
moment_at begun made scene =
    record { begun_rounds = begun; made = made; world = scene.0; place = scene.1 }

-- before the first round that is run from this world
abbrev pub first_moment : World → Moment
first_moment w = moment_at w.rounds 0 (w, between_rounds)

-- behind a move of this kind
abbrev pub moment_behind : MoveKind → Moment → Scene → Moment
moment_behind begins m scene = moment_at (m.begun_rounds + 1) 0 scene
moment_behind _ m scene = moment_at m.begun_rounds (suc m.made) scene

-- what happens without a move behind it
abbrev pub settled_scene : Scene → Scene
settled_scene scene = passed_on scene.0 scene.1

-- the move that is next at a moment
abbrev pub kind_at : (limit : ℕ) → Moment → Option MoveKind
kind_at limit m = next_kind limit m.begun_rounds m.world m.place

-- ---- a history: the moves from a moment on, at most so many, each with the moment behind it

abbrev pub moves_from : (most limit : ℕ) → List Answer → Moment → List (MoveKind × Moment)
moves_from zero limit answers m = []
moves_from (suc most) limit answers m =
    elim (kind_at limit m) [
      | None ↦ []
      | Some kind ↦ elim (over answers (move_of m.world m.place)) [
        | asks question output error ↦ []
        | gives scene rest ↦
            let next : Moment = moment_behind kind m (settled_scene scene) in
            (kind, next) ∷ moves_from most limit rest next
      ]
    ]

-- the history of these images over these answers
abbrev pub history : (most : ℕ) → List Image → Config → List Answer → List (MoveKind × Moment)
history most images config answers =
    moves_from most config.rounds answers (first_moment (opening images config))

-- ---- where a history leads

-- The moment behind so many moves, with the answers that are left. Where no move is next it stays;
-- where a move needs an answer more, the question is asked.
abbrev pub walk : (moves limit : ℕ) → List Answer → Moment → Outcome Moment
walk zero limit answers m = gives m answers
walk (suc moves) limit answers m =
    elim (kind_at limit m) [
      | None ↦ gives m answers
      | Some kind ↦ elim (over answers (move_of m.world m.place)) [
        | asks question output error ↦ asks question output error
        | gives scene rest ↦ walk moves limit rest (moment_behind kind m (settled_scene scene))
      ]
    ]

-- How a run ended whose history has come here, where no move is next.
abbrev pub ending_at : World → Place → Ending
ending_at w (at_end ending) = ending
ending_at w _ = if is_none_of (live_threads w) then Done else Limit
