-- Where a resumption halts, as it is kept, and what was seen before a move. This project's own
-- words.
use Rattle.std.specs.Prelude.{ℕ, ◌≡◌, ◌&&◌, ◌||◌, Bool, true, List, length, map, Option, Some, None}
use Rattle.std.specs.Prelude.{◌+◌, ◌<◌, false, is_some}
use Rattle.std.specs.Prelude.{option_and_then, option_to_list, if◌then◌else◌, filter, nat_lt, ◌≤◌}
use Rattle.std.specs.List.{list_all}
use Rattle.dos_world.specs.World.{World, Thread, thread_at}
use Rattle.group_moves.specs.Moments.{Moment}
use Rattle.group_moves.specs.Moves.{MoveKind, faults}
use Rattle.group_walk.specs.Walks.{kind_named}
use Rattle.gdb_packets.specs.declared.resumptions.Action.{Action}
use Rattle.gdb_packets.specs.declared.resumptions.Resumption.{Resumption}
use Rattle.debug_session.specs.Actions.{action_of_thread}
use Rattle.debug_session.specs.Backwards.{backwards, backwards_over}
use Rattle.debug_session.specs.Forwards.{forwards, forwards_over, halt_before, last_there}
use Rattle.debug_session.specs.Goals.{is_moment_reached, peopled_over, reached_from}
use Rattle.debug_session.specs.Halts.{Halt, puts_from}
use Rattle.debug_session.specs.Hits.{broken_by}
use Rattle.debug_session.specs.Positions.{Position, first_kind, mover_of, position_after}
use Rattle.debug_session.specs.Sessions.{Session, Pair, chosen_at, is_belonging, is_process_live}
use Rattle.debug_session.specs.Sessions.{is_anybody_there, is_told_of}
use Rattle.debug_session.specs.Stops.{fault_signal}
use Rattle.debug_session.specs.declared.points.Watchpoint.{Watchpoint}
use Rattle.debugger.specs.declared.forwards.Put.{Put}
use Rattle.debugger.specs.declared.forwards.Way.{Way}
use Rattle.debug_session.specs.Resuming.{Answered, halt_of, halted}
use Rattle.debug_client.specs.Births.{BirthTables, has_named}
use Rattle.debugger.specs.declared.resuming.Direction.{Direction}
use Rattle.debugger.specs.declared.resuming.Direction.TheVariants.{Forwards, Backwards}
use Rattle.debugger.specs.declared.halts.Halt.{Halt as Kept}
use Rattle.debugger.specs.declared.moving.Before.{Before}

-- ---- halts

-- whose stop it is: this thread's, or that of the one that is chosen there
abbrev pub whose_stop : Session → List Resumption → Position → Option Pair → Pair
whose_stop s rs at None = chosen_at s rs at
whose_stop s rs at (Some pair) = pair

-- what is meant by a halt that is kept
abbrev pub halt_meant : Session → List Resumption → (start : Position) → Kept → Halt
halt_meant s rs start kept =
    let at : Position = position_after kept.moves start in
    let whose : Pair = whose_stop s rs at kept.whose in
    record {
      position = at;
      stop = record { signal = kept.signal; whose = whose; cause = kept.cause };
      born = option_to_list kept.born;
      owed = if kept.is_owed then Some whose.1 else None;
    }

-- the signal of a fault
abbrev pub fault_named : MoveKind → Option ℕ
fault_named (faults t number) = Some (fault_signal number)
fault_named _ = None

-- ---- what was seen before a move

-- the mover, where it is told of
abbrev pub mover_told : Session → List Resumption → World → MoveKind → Option ℕ
mover_told s rs w kind = option_and_then
    (λ t. if is_told_of s rs w t then Some t else None) (mover_of kind)

-- what a thread that lives does
abbrev pub action_at : List Resumption → World → ℕ → Option Action
action_at rs w t =
    option_and_then (λ (thread : Thread). action_of_thread rs thread.process t) (thread_at w t)

-- Before a move of this kind in this world.
pub record WasSeen (b : Before) (s : Session) (rs : List Resumption) (w : World) : Type 0 where
  pub mover : b.mover ≡ mover_told s rs w (kind_named b.kind)
  pub action : b.action ≡ option_and_then (action_at rs w) b.mover
  pub broken : b.is_broken ≡ is_some (broken_by s rs w (mover_of (kind_named b.kind)))
  pub processes : b.processes ≡ length w.processes
  pub watching : b.watching.items ≡ map
      (λ (point : Watchpoint). is_belonging s rs w point.process
      && is_process_live w point.process)
      s.watchpoints

-- ---- on the way

-- How far a resumption forwards has come: whether this is where it began, whether somebody was
-- there by now, and at which moment somebody last was.
abbrev pub forwards_from : Session → List Resumption → (start : Position) → Way → Position → Halt
forwards_from s rs start way at =
    forwards_over s rs way.is_first way.was_there (position_after way.last start) at.past at.moment
    at.future

-- Whether somebody is there at this position is counted already.
pub record IsNoted (s : Session) (rs : List Resumption) (start : Position) (way : Way)
    (at : Position) : Type 0 where
  pub last : last_there s rs (position_after way.last start) at ≡ position_after way.last start
  pub there : (way.was_there || is_anybody_there s rs at.moment.world) ≡ way.was_there

-- what a moment halts by in front of its move, where it isn't the one at which a resumption began
abbrev pub halt_unless : (is_first : Bool) → Session → List Resumption → Position → Option Halt
halt_unless is_first s rs at = if is_first then None else halt_before s rs at

-- The move that is ahead, if any, is the one that was seen, and its moment doesn't halt by itself.
pub record IsPassing (b : Before) (s : Session) (rs : List Resumption) (is_first : Bool)
    (at : Position) : Type 0 where
  pub kind : (made : MoveKind) → first_kind at.future ≡ Some made → made ≡ kind_named b.kind
  pub passing : first_kind at.future ≡ Some (kind_named b.kind)
      → halt_unless is_first s rs at ≡ None

-- What was put by the moves from one number of moves on: the bytes of each, with that number.
abbrev pub puts_kept : List Put → List (ℕ × List ℕ)
puts_kept puts = map (λ (put : Put). (put.moves, put.bytes.items)) puts

-- those of the moves in front of this number
abbrev pub puts_before : ℕ → List Put → List (List ℕ)
puts_before moves puts =
    map (λ (put : Put). put.bytes.items) (filter (λ (put : Put). nat_lt put.moves moves) puts)

-- For each later moment up to here, what was put by the moves in front of it; no move that is still
-- ahead has put anything that was kept.
pub record HasKept (start : Position) (first now : ℕ) (puts : List Put) : Type 0 where
  pub each : (moves : ℕ) → first ≤ moves → moves ≤ now
      → puts_before moves puts ≡ puts_from (position_after first start) (position_after moves start)
  pub behind : list_all (λ (put : Put). nat_lt put.moves now) puts ≡ true

-- ---- to a moment

-- the last position up to here at which a process that is shown lives, or the first of all
abbrev pub peopled_at : Session → Position → Position
peopled_at s at = peopled_over s at.past at.moment at.future

-- the first position from here on that isn't before this round and move, or the last one
abbrev pub reached_at : (round made : ℕ) → Position → Position
reached_at round made at = reached_from round made at.past at.moment at.future

-- Of so many moments of one round, from this one on, each is before this round and move.
abbrev pub AreBefore : (round made count : ℕ) → Moment → Type 0
AreBefore round made count m = (later : Moment) → later.begun_rounds ≡ m.begun_rounds
    → m.made ≤ later.made → later.made < m.made + count
    → is_moment_reached round made later ≡ false

-- ---- backwards

abbrev pub backwards_from : Session → List Resumption → (stepped : Option ℕ) → Position → Halt
backwards_from s rs stepped at = backwards_over s rs stepped at.past at.moment at.future

-- It is known in which process the thread was born whose step it is.
abbrev pub knows_stepped : BirthTables → (stepped : Option ℕ) → Bool
knows_stepped births stepped = has_named births stepped

-- ---- which way

abbrev pub knows_direction : BirthTables → Direction → Bool
knows_direction births Forwards = true
knows_direction births (Backwards stepped) = knows_stepped births stepped

abbrev pub goes : Session → List Resumption → Direction → Halt
goes s rs Forwards = forwards s rs
goes s rs (Backwards stepped) = backwards s rs stepped

-- what a resumption comes to that goes this way
abbrev pub resumed_by : Session → List Resumption → Direction → Answered
resumed_by s rs direction = halted s (halt_of s rs (goes s rs direction))
