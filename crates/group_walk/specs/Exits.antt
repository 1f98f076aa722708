-- Moves behind which nobody is left. This project's own words.
use Rattle.std.specs.Prelude.{ℕ, ◌≡◌, Some, None}
use Rattle.dos_world.specs.World.{World, live_process}
use Rattle.dos_world.specs.Play.{done}
use Rattle.group_moves.specs.Moments.{Moment, kind_at, settled_scene}
use Rattle.group_moves.specs.Moves.{MoveKind, move_of}
use Rattle.group_moves.specs.Places.{Scene}

-- no process lives
abbrev pub IsDeserted : World → Type 0
IsDeserted w = (p : ℕ) → live_process w p ≡ None

-- The move that is next at a moment asks nothing, so it leads to one scene whatever the answers
-- are; and behind it, and behind what happens without a move, no process lives.
pub record LeavesNobody (limit : ℕ) (m : Moment) : Type 0 where
  pub kind : MoveKind
  pub next : kind_at limit m ≡ Some kind
  pub scene : Scene
  pub move : move_of m.world m.place ≡ done scene
  pub deserted : IsDeserted (settled_scene scene).0
