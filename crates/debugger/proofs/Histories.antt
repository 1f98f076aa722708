-- The start of a history, and the move that led to a place in it. This project's own.
use Rattle.std.proofs.Common.{◌≡◌, ℕ, zero, suc, ◌+◌, ◌-◌, ◌<◌, ◌∙◌, List, [], ◌∷◌, ◌++◌, map}
use Rattle.std.proofs.Common.{length, arith, refl, sym, ap, None, append_assoc, reverse}
use Rattle.std.proofs.lemmas.Grind.{reverse_onto}
use Rattle.std.proofs.lemmas.List.{length-map}
use Rattle.group_moves.specs.Moves.{MoveKind}
use Rattle.group_moves.specs.Moments.{Moment, first_moment}
use Rattle.flat_machine.specs.Opening.{opening}
use Rattle.debug_session.specs.Goals.{rewound}
use Rattle.debug_session.specs.Positions.{Position, all_moments, at_start, first_kind, moved_on}
use Rattle.debug_session.specs.Positions.{position_after, position_at}
use Rattle.debug_session.specs.Recordings.{recorded}
use Rattle.recorded_walk.specs.Playbacks.{IsStartOf, Played}

-- a move, with the moment that it leads to
abbrev Step : Type 0
Step = MoveKind × Moment

abbrev moments_of : List Step → List Moment
moments_of steps = map (λ (step : Step). step.1) steps

-- ---- all moments, and how many moves are ahead

step_moments : (past : List Step) (m : Moment) (future : List Step)
    → all_moments (moved_on (position_at past m future)) ≡ all_moments (position_at past m future)
step_moments past m [] = refl
step_moments past m (step ∷ steps) =
    ap (λ (ms : List Moment). ms ++ step.1 ∷ moments_of steps)
    (reverse_onto (moments_of past) m [])
    ∙ append_assoc (reverse (moments_of past)) (m ∷ []) (step.1 ∷ moments_of steps)

pub moments_after : (moves : ℕ) (start : Position)
    → all_moments (position_after moves start) ≡ all_moments start
moments_after zero start = refl
moments_after (suc moves) start =
    let at : Position = position_after moves start in
    step_moments at.past at.moment at.future ∙ moments_after moves start

step_rewound : (past : List Step) (m : Moment) (future : List Step)
    → rewound (moved_on (position_at past m future)) ≡ rewound (position_at past m future)
step_rewound past m [] = refl
step_rewound past m (step ∷ steps) = refl

pub rewound_after : (moves : ℕ) (start : Position)
    → rewound (position_after moves start) ≡ rewound start
rewound_after zero start = refl
rewound_after (suc moves) start =
    let at : Position = position_after moves start in
    step_rewound at.past at.moment at.future ∙ rewound_after moves start

step_length : (past : List Step) (m : Moment) (future : List Step)
    → length (moved_on (position_at past m future)).future ≡ length future - 1
step_length past m [] = omega arith
step_length past m (step ∷ steps) = omega arith

ahead_after : (moves : ℕ) (start : Position)
    → length (position_after moves start).future ≡ length start.future - moves
ahead_after zero start = omega arith
ahead_after (suc moves) start =
    let at : Position = position_after moves start in
    omega (arith, step_length at.past at.moment at.future, ahead_after moves start)

-- ---- the move that led to a place

on_first : (past : List Step) (m : Moment) (future : List Step) → 0 < length future
    → first_kind (moved_on (position_at past m future)).past ≡ first_kind future
on_first past m [] some = absurd (omega (arith, some))
on_first past m (move ∷ moves) some = refl

-- The move that is ahead behind so many moves is the last of one more.
pub came_by : (moves : ℕ) (start : Position) → moves < length start.future
    → first_kind (position_after (suc moves) start).past
    ≡ first_kind (position_after moves start).future
came_by moves start some =
    let at : Position = position_after moves start in
    on_first at.past at.moment at.future (omega (arith, some, ahead_after moves start))

-- ---- the start

module _ (p : Played) where
  -- as many moves are ahead of it as there are moments behind it
  pub start_length : (start : Position) → IsStartOf p start
      → length (all_moments start) ≡ length start.future + 1
  start_length start is_start =
      let moves : List Step = recorded is_start.most p.images p.config p.entries in
      let first : Moment = first_moment (opening p.images p.config) in
      ap (λ (at : Position). length (all_moments at)) is_start.is
      ∙ counted first moves
      ∙ ap (λ (at : Position). length at.future + 1) (sym is_start.is)
    where
      counted : (first : Moment) (moves : List Step)
          → length (all_moments (at_start first moves)) ≡ length moves + 1
      counted first moves = omega (arith, length-map moves (λ (move : Step). move.1))

  pub start_rewound : (start : Position) → IsStartOf p start → rewound start ≡ start
  start_rewound start is_start = ap rewound is_start.is ∙ sym is_start.is

  -- nothing is behind it
  pub none_behind : (start : Position) → IsStartOf p start → first_kind start.past ≡ None
  none_behind start is_start = ap (λ (at : Position). first_kind at.past) is_start.is
