-- A moment that a person wants to go to. This project's own rule.
use Rattle.std.specs.Prelude.{ℕ, ◌==◌, ◌&&◌, ◌||◌, Bool, List, [], ◌∷◌, length, nat_lt, nat_le}
use Rattle.std.specs.Prelude.{if◌then◌else◌}
use Rattle.std.specs.List.{list_any}
use Rattle.dos_world.specs.Numbered.{run_of}
use Rattle.dos_world.specs.World.{World}
use Rattle.group_moves.specs.Moves.{MoveKind}
use Rattle.group_moves.specs.Moments.{Moment}
use Rattle.gdb_packets.specs.declared.resumptions.Resumption.{Resumption}
use Rattle.debug_session.specs.Positions.{Position, position_at}
use Rattle.debug_session.specs.Stops.{gone_signal}
use Rattle.debug_session.specs.Sessions.{Session, is_process_live, is_shown, chosen_at}
use Rattle.debug_session.specs.Halts.{Halt, halt_by}
use Rattle.debug_session.specs.declared.stops.Cause.TheVariants.{Plainly}

-- the moment isn't before this round and move
abbrev pub is_moment_reached : (round made : ℕ) → Moment → Bool
is_moment_reached round made m =
    nat_lt round m.begun_rounds || (round == m.begun_rounds && nat_le made m.made)

-- the first position from here on that isn't before it, or the last one
abbrev pub reached_from : (round made : ℕ) → (past : List (MoveKind × Moment)) → Moment
    → (future : List (MoveKind × Moment)) → Position
reached_from round made past m [] = position_at past m []
reached_from round made past m (move ∷ future) =
    if is_moment_reached round made m then position_at past m (move ∷ future)
    else reached_from round made ((move.0, m) ∷ past) move.1 future

-- the same position at the first moment of its history
abbrev pub rewound_over : (past : List (MoveKind × Moment)) → Moment
    → (future : List (MoveKind × Moment)) → Position
rewound_over [] m future = position_at [] m future
rewound_over (move ∷ past) m future = rewound_over past move.1 ((move.0, m) ∷ future)

abbrev pub rewound : Position → Position
rewound at = rewound_over at.past at.moment at.future

-- some process that is shown lives
abbrev pub is_somebody_shown : Session → World → Bool
is_somebody_shown s w =
    list_any (λ p. is_process_live w p && is_shown s w p) (run_of 1 (length w.processes))

-- the last position up to here at which somebody does, or the first of all
abbrev pub peopled_over : Session → (past : List (MoveKind × Moment)) → Moment
    → (future : List (MoveKind × Moment)) → Position
peopled_over s [] m future = position_at [] m future
peopled_over s (move ∷ past) m future =
    if is_somebody_shown s m.world then position_at (move ∷ past) m future
    else peopled_over s past move.1 ((move.0, m) ∷ future)

abbrev pub goal_position : Session → (round made : ℕ) → Position
goal_position s round made =
    let start : Position = rewound s.position in
    let at : Position = reached_from round made start.past start.moment start.future in
    peopled_over s at.past at.moment at.future

-- Going there, whatever is resumed.
abbrev pub halt_gone : Session → List Resumption → (round made : ℕ) → Halt
halt_gone s rs round made =
    let at : Position = goal_position s round made in
    halt_by gone_signal at (chosen_at s rs at) Plainly
