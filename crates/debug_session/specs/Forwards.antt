-- Where a resumption forwards stops: at the first moment at which something holds that is told.
-- This project's own rule.
use Rattle.std.specs.Prelude.{ℕ, ◌&&◌, ◌||◌, Bool, true, false, not, List, [], ◌∷◌, length}
use Rattle.std.specs.Prelude.{Option, Some, None, is_none, is_some, if◌then◌else◌, nat_lt}
use Rattle.std.specs.List.{list_any, list_all}
use Rattle.dos_world.specs.World.{World, Thread, thread_at, first_thread}
use Rattle.group_moves.specs.Moves.{MoveKind}
use Rattle.group_moves.specs.Moments.{Moment}
use Rattle.gdb_packets.specs.declared.resumptions.Resumption.{Resumption}
use Rattle.debug_session.specs.Positions.{Position, position_at, mover_of, mover_at, first_kind}
use Rattle.debug_session.specs.Actions.{is_stepping, is_stopping, action_of_thread, thread_named}
use Rattle.debug_session.specs.Points.{Watchpoint}
use Rattle.debug_session.specs.Stops.{fault_signal}
use Rattle.debug_session.specs.Sessions.{Session, is_told_of, is_anybody_there, is_among}
use Rattle.debug_session.specs.Sessions.{chosen_at, home_pair, Pair}
use Rattle.debug_session.specs.Hits.{broken_by, fault_by, hit_by, watching_mover, lowest_watcher}
use Rattle.debug_session.specs.Halts.{Halt, halt_at, halt_by}
use Rattle.debug_session.specs.declared.stops.Cause.TheVariants.{Broke, Watched}
use Rattle.debug_session.specs.declared.stops.Cause.TheVariants.{Bore, ReachedEnd, Plainly}

-- ---- at a moment: a breakpoint, then a fault

abbrev pub halt_broken : Session → Position → Option ℕ → Option Halt
halt_broken s at None = None
halt_broken s at (Some t) = Some (halt_at at (home_pair s t) Broke)

abbrev pub halt_faulted : Session → Position → Option (ℕ × ℕ) → Option Halt
halt_faulted s at None = None
halt_faulted s at (Some (t, number)) =
    Some (halt_by (fault_signal number) at (home_pair s t) Plainly)

-- the first that there is
abbrev pub or_else : Option Halt → Option Halt → Option Halt
or_else None other = other
or_else (Some halt) other = Some halt

abbrev pub halt_before : Session → List Resumption → Position → Option Halt
halt_before s rs at =
    or_else (halt_broken s at (broken_by s rs at.moment.world (mover_at at)))
    (halt_faulted s at (fault_by s rs at.moment.world (first_kind at.future)))

-- ---- by a move: a watchpoint

-- A hit that is told behind the move: the lowest thread that watches, or the chosen one there, is
-- owed a step.
abbrev pub halt_owing : Position → Pair → Watchpoint → Halt
halt_owing at whose point = record (halt_at at whose (Watched point)) { owed = Some whose.1 }

abbrev pub pair_or : Session → Option ℕ → Pair → Pair
pair_or s None other = other
pair_or s (Some t) other = home_pair s t

-- Told at one position where the mover itself watches; else at the other.
abbrev pub halt_watched : Session → List Resumption → MoveKind → (behind : World)
    → (before after : Position) → Option Watchpoint → Option Halt
halt_watched s rs kind behind before after None = None
halt_watched s rs kind behind before after (Some point) =
    elim (watching_mover s rs kind behind point) [
      | Some t ↦ Some (halt_at before (home_pair s t) (Watched point))
      | None ↦ Some (halt_owing after
          (pair_or s (lowest_watcher s rs behind point) (chosen_at s rs after)) point)
    ]

-- ---- by a move: nobody is left, a birth, a step

-- Somebody was there, and nobody is now.
abbrev pub halt_deserted : Session → List Resumption → (was_there : Bool) → (last after : Position)
    → Option Halt
halt_deserted s rs was_there last after =
    if was_there && not (is_anybody_there s rs after.moment.world)
    then Some (halt_at last (chosen_at s rs last) ReachedEnd) else None

-- the number of the process that a move bears
abbrev pub born_between : (before behind : World) → Option ℕ
born_between before behind =
    if nat_lt (length before.processes) (length behind.processes)
    then Some (length behind.processes) else None

-- Forks are told, the mover is told of, and the child isn't yet; at most 256 processes are.
abbrev pub is_birth_told : Session → List Resumption → World → (mover : Option ℕ) → (child : ℕ)
    → Bool
is_birth_told s rs before None child = false
is_birth_told s rs before (Some t) child =
    s.is_told_forks && is_told_of s rs before t && not (is_among child s.told)
    && nat_lt (length s.told) 256

abbrev pub halt_bearing : Session → Position → (parent child : ℕ) → (first : Option ℕ) → Option Halt
halt_bearing s after t p None = None
halt_bearing s after t p (Some first) =
    Some (record (halt_at after (home_pair s t) (Bore p first)) { born = p ∷ [] })

abbrev pub halt_born : Session → List Resumption → World → (mover : Option ℕ) → Position
    → Option ℕ → Option Halt
halt_born s rs before (Some t) after (Some p) =
    if is_birth_told s rs before (Some t) p
    then halt_bearing s after t p (first_thread after.moment.world p) else None
halt_born s rs before _ after _ = None

-- The mover's action ends with this move: by where its pc is behind it; where it is gone, by a step
-- or a range.
abbrev pub is_step_over : List Resumption → (before behind : Option Thread) → ℕ → Bool
is_step_over rs None behind t = false
is_step_over rs (Some thread) behind t =
    elim (action_of_thread rs thread.process t) [
      | None ↦ false
      | Some action ↦ elim behind [
        | None ↦ is_stepping action
        | Some later ↦ is_stopping later.registers.pc action
      ]
    ]

abbrev pub step_pair : Session → List Resumption → Position → ℕ → Pair
step_pair s rs after t =
    if is_some (thread_at after.moment.world t) then home_pair s t else chosen_at s rs after

abbrev pub halt_stepped : Session → List Resumption → World → (mover : Option ℕ) → Position
    → Option Halt
halt_stepped s rs before None after = None
halt_stepped s rs before (Some t) after =
    if is_told_of s rs before t
    && is_step_over rs (thread_at before t) (thread_at after.moment.world t) t
    then Some (halt_at after (step_pair s rs after t) Plainly) else None

-- an action steps a thread that is gone
abbrev pub steps_nobody : World → Resumption → Bool
steps_nobody w r =
    elim (thread_named r.threads) [ None ↦ false | Some t ↦ is_none (thread_at w t) ]

-- There are actions that step, and each names a thread that is gone.
abbrev pub is_stepping_nobody : List Resumption → World → Bool
is_stepping_nobody rs w =
    list_any (λ r. is_stepping r.action) rs
    && list_all (λ r. not (is_stepping r.action) || steps_nobody w r) rs

abbrev pub halt_unstepped : Session → List Resumption → Position → Option Halt
halt_unstepped s rs after =
    if is_stepping_nobody rs after.moment.world
    then Some (halt_at after (chosen_at s rs after) Plainly) else None

-- what a move stops by, from a position to the next
abbrev pub halt_moving : Session → List Resumption → (was_there : Bool) → (last before : Position)
    → MoveKind → (after : Position) → Option Halt
halt_moving s rs was_there last before kind after =
    let w : World = before.moment.world in
    let next : World = after.moment.world in
    or_else (halt_watched s rs kind next before after (hit_by s rs w kind next))
    (or_else (halt_deserted s rs was_there last after)
    (or_else (halt_born s rs w (mover_of kind) after (born_between w next))
    (or_else (halt_stepped s rs w (mover_of kind) after) (halt_unstepped s rs after))))

-- ---- forwards

-- the last position at which somebody is there
abbrev pub last_there : Session → List Resumption → Position → Position → Position
last_there s rs last at = if is_anybody_there s rs at.moment.world then at else last

-- over the moves ahead, by whether this is where it began, whether somebody was there by now, and
-- the last position at which somebody was
abbrev pub forwards_over : Session → List Resumption → (is_first was_there : Bool)
    → (last : Position) → (past : List (MoveKind × Moment)) → Moment
    → (future : List (MoveKind × Moment)) → Halt
forwards_over s rs is_first was_there last past m [] =
    let at : Position = position_at past m [] in
    let now : Position = last_there s rs last at in
    halt_at now (chosen_at s rs now) ReachedEnd
forwards_over s rs is_first was_there last past m (move ∷ future) =
    let at : Position = position_at past m (move ∷ future) in
    let after : Position = position_at ((move.0, m) ∷ past) move.1 future in
    let now : Position = last_there s rs last at in
    let here : Bool = was_there || is_anybody_there s rs m.world in
    elim (if is_first then None else halt_before s rs at) [
      | Some halt ↦ halt
      | None ↦ elim (halt_moving s rs here now at move.0 after) [
        | Some halt ↦ halt
        | None ↦ forwards_over s rs false here now after.past move.1 future
      ]
    ]

-- Where the actions lead from where the session stands.
abbrev pub forwards : Session → List Resumption → Halt
forwards s rs =
    let at : Position = s.position in
    forwards_over s rs true false at at.past at.moment at.future
