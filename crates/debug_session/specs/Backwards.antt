-- Where a resumption backwards stops. This project's own rule.
use Rattle.std.specs.Prelude.{ℕ, Bool, List, [], ◌∷◌, Option}
use Rattle.std.specs.Prelude.{Some, None, is_some, if◌then◌else◌}
use Rattle.std.specs.List.{list_any}
use Rattle.dos_world.specs.World.{World, thread_at}
use Rattle.group_moves.specs.Moves.{MoveKind}
use Rattle.group_moves.specs.Moments.{Moment}
use Rattle.gdb_packets.specs.declared.resumptions.Resumption.{Resumption}
use Rattle.debug_session.specs.Positions.{Position, position_at, mover_of}
use Rattle.debug_session.specs.Homes.{is_some_number}
use Rattle.debug_session.specs.Sessions.{Session, is_anybody_there, chosen_at, home_pair}
use Rattle.debug_session.specs.Hits.{broken_by, hit_by}
use Rattle.debug_session.specs.Halts.{Halt, halt_at}
use Rattle.debug_session.specs.Forwards.{or_else, halt_broken, halt_watched, pair_or}
use Rattle.debug_session.specs.declared.stops.Cause.TheVariants.{ReachedStart, Plainly}

-- ---- by the move that led here

-- A breakpoint at the moment before.
abbrev pub halt_broken_back : Session → List Resumption → Position → (mover : Option ℕ)
    → Option Halt
halt_broken_back s rs before mover =
    halt_broken s before (broken_by s rs before.moment.world mover)

-- It was the move of the thread whose step it is.
abbrev pub halt_stepped_back : Session → Position → (stepped mover : Option ℕ) → Option Halt
halt_stepped_back s before None mover = None
halt_stepped_back s before (Some t) mover =
    if is_some_number t mover then Some (halt_at before (home_pair s t) Plainly) else None

-- A watchpoint; here the position that comes first is the one behind the move.
abbrev pub halt_back : Session → List Resumption → (stepped : Option ℕ) → (here : Position)
    → MoveKind → (before : Position) → Option Halt
halt_back s rs stepped here kind before =
    let w : World = before.moment.world in
    let next : World = here.moment.world in
    or_else (halt_watched s rs kind next here before (hit_by s rs w kind next))
    (or_else (halt_broken_back s rs before (mover_of kind))
    (halt_stepped_back s before stepped (mover_of kind)))

-- ---- the start

-- The thread whose step it is lives; without a step, somebody is there.
abbrev pub is_there : Session → List Resumption → (stepped : Option ℕ) → World → Bool
is_there s rs None w = is_anybody_there s rs w
is_there s rs (Some t) w = is_some (thread_at w t)

-- at some moment of these moves
abbrev pub was_ever_there : Session → List Resumption → (stepped : Option ℕ)
    → List (MoveKind × Moment) → Bool
was_ever_there s rs stepped past = list_any (λ move. is_there s rs stepped move.1.world) past

abbrev pub halt_start : Session → List Resumption → (stepped : Option ℕ) → Position → Halt
halt_start s rs stepped at =
    halt_at at (pair_or s stepped (chosen_at s rs at)) ReachedStart

-- ---- backwards, over the moves behind

abbrev pub backwards_over : Session → List Resumption → (stepped : Option ℕ)
    → (past : List (MoveKind × Moment)) → Moment → (future : List (MoveKind × Moment)) → Halt
backwards_over s rs stepped [] m future = halt_start s rs stepped (position_at [] m future)
backwards_over s rs stepped (move ∷ past) m future =
    let here : Position = position_at (move ∷ past) m future in
    let before : Position = position_at past move.1 ((move.0, m) ∷ future) in
    elim (halt_back s rs stepped here move.0 before) [
      | Some halt ↦ halt
      | None ↦
          if was_ever_there s rs stepped (move ∷ past)
          then backwards_over s rs stepped past move.1 before.future
          else halt_start s rs stepped here
    ]

-- Where the actions lead backwards from where the session stands, with a step of this thread.
abbrev pub backwards : Session → List Resumption → (stepped : Option ℕ) → Halt
backwards s rs stepped =
    let at : Position = s.position in
    backwards_over s rs stepped at.past at.moment at.future
