-- Moves as plays, and laws of them; the functions of `laws` promise these. This project's own.
use Rattle.std.specs.Prelude.{ℕ, zero, suc, ◌≡◌, ◌+◌, List, Some, None}
use Rattle.dos_world.specs.World.{World}
use Rattle.dos_world.specs.Play.{Play, Answer, done, ◌>>=◌, over, questions}
use Rattle.dos_world.specs.declared.Config.{Config}
use Rattle.dos_world.specs.declared.Scheme.TheVariants.{Ownership}
use Rattle.flat_machine.specs.Machine.{machine_from, result_of, run_from}
use Rattle.flat_machine.specs.Rest.{Turn, on, over_with}
use Rattle.group_moves.specs.Laws.{finish_by}
use Rattle.group_moves.specs.Moments.{Moment, first_moment, kind_at, moment_behind, settled_scene}
use Rattle.group_moves.specs.Moments.{walk}
use Rattle.group_moves.specs.Moves.{move_of}
use Rattle.group_moves.specs.Places.{Place, Scene}
use Rattle.std.specs.Prelude.{Bool, true, false}

-- ---- a turn of the serial phase

-- the world of a turn
abbrev pub world_turned : Turn → World
world_turned (on w) = w
world_turned (over_with w) = w

-- a turn behind which the part goes on, or doesn't
abbrev pub turn_in : (goes_on : Bool) → World → Turn
turn_in true w = on w
turn_in false w = over_with w

-- ---- moves

-- the scene behind the move at a place, and behind what happens without one
abbrev pub settled_move : Place → World → Play Scene
settled_move place w = move_of w place >>= λ scene. done (settled_scene scene)

-- the world of a scene
abbrev pub world_of_scene : Scene → World
world_of_scene scene = scene.0

-- The moment behind the move that is next, and behind what happens without one; the same moment
-- where no move is next.
abbrev pub moved : (limit : ℕ) → Moment → Play Moment
moved limit m =
    elim (kind_at limit m) [
      | None ↦ done m
      | Some kind ↦ move_of m.world m.place
          >>= λ scene. done (moment_behind kind m (settled_scene scene))
    ]

-- the moment behind so many moves
abbrev pub walked : (moves limit : ℕ) → Moment → Play Moment
walked zero limit m = done m
walked (suc moves) limit m = moved limit m >>= λ next. walked moves limit next

-- ---- laws

-- Over all answers a walk's moves lead to where the definition's walk does.
abbrev pub WalksArePlays : Type 0
WalksArePlays = (moves limit : ℕ) (answers : List Answer) (m : Moment)
    → over answers (walked moves limit m) ≡ walk moves limit answers m

-- Over these answers a run from a world is, after some number of moves and whatever number behind
-- them, what the walk from its first moment leads to.
pub record IsWalkedTo (w : World) (config : Config) (answers : List Answer) : Type 0 where
  pub moves : ℕ
  pub work : ℕ
  pub is : (more : ℕ)
      → machine_from w config answers
      ≡ result_of (questions answers (run_from w config))
      (finish_by work (over answers (walked (moves + more) config.rounds (first_moment w))))

-- The walk from the first moment is the machine's run, in the ownership scheme.
abbrev pub WalksAreTheMachine : Type 0
WalksAreTheMachine = (w : World) (config : Config) (answers : List Answer)
    → config.scheme ≡ Ownership → IsWalkedTo w config answers
