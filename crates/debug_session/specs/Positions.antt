-- Where one stands in a history: with moves behind and moves ahead. This project's own rule.
use Rattle.std.specs.Prelude.{ℕ, zero, suc, List, [], ◌∷◌, ◌++◌, map, reverse, Option, Some, None}
use Rattle.group_moves.specs.Moves.{MoveKind, begins, runs, is_served, faults}
use Rattle.group_moves.specs.Moments.{Moment}

-- ---- who moves

-- the thread that makes a move; the begin of a round is nobody's
abbrev pub mover_of : MoveKind → Option ℕ
mover_of begins = None
mover_of (runs t) = Some t
mover_of (is_served t) = Some t
mover_of (faults t number) = Some t

-- ---- positions

-- The moves behind, the last of them first, each with the moment at which it was made; the moment;
-- the moves ahead, each with the moment that it leads to.
pub record Position : Type 0 where
  pub past : List (MoveKind × Moment)
  pub moment : Moment
  pub future : List (MoveKind × Moment)

abbrev pub position_at : (past : List (MoveKind × Moment)) → Moment
    → (future : List (MoveKind × Moment)) → Position
position_at past m future = record { past = past; moment = m; future = future }

-- at the first moment, with all moves ahead
abbrev pub at_start : Moment → List (MoveKind × Moment) → Position
at_start m moves = position_at [] m moves

-- all moments of the history, in order
abbrev pub all_moments : Position → List Moment
all_moments at = reverse (map (λ move. move.1) at.past) ++ at.moment
    ∷ map (λ move. move.1) at.future

-- the first of these moves
abbrev pub first_kind : List (MoveKind × Moment) → Option MoveKind
first_kind [] = None
first_kind (move ∷ moves) = Some move.0

-- the thread of the first of these moves
abbrev pub first_mover : List (MoveKind × Moment) → Option ℕ
first_mover [] = None
first_mover (move ∷ moves) = mover_of move.0

-- The mover at a position: the thread of the move that is next there.
abbrev pub mover_at : Position → Option ℕ
mover_at at = first_mover at.future

-- one move on; it stays at the last moment
abbrev pub moved_on : Position → Position
moved_on at = go at at.future
  where
    go : Position → List (MoveKind × Moment) → Position
    go at [] = at
    go at (move ∷ moves) = position_at ((move.0, at.moment) ∷ at.past) move.1 moves

-- one move back; it stays at the first moment
abbrev pub moved_back : Position → Position
moved_back at = go at at.past
  where
    go : Position → List (MoveKind × Moment) → Position
    go at [] = at
    go at (move ∷ moves) = position_at moves move.1 ((move.0, at.moment) ∷ at.future)

-- so many moves on
abbrev pub position_after : (moves : ℕ) → Position → Position
position_after zero at = at
position_after (suc moves) at = moved_on (position_after moves at)
