-- Where a resumption halts, and what the session is then. This project's own rule.
use Rattle.std.specs.Prelude.{ℕ, ◌-◌, List, [], ◌∷◌, ◌++◌, length, take, drop, Option, None}
use Rattle.dos_world.specs.World.{World}
use Rattle.group_moves.specs.Moves.{MoveKind}
use Rattle.group_moves.specs.Moments.{Moment}
use Rattle.debug_session.specs.Positions.{Position}
use Rattle.debug_session.specs.Stops.{Stop, Cause, trap_signal}
use Rattle.debug_session.specs.Sessions.{Session}

-- A position and a stop; a process that is told of from now on; a thread whose step is owed.
pub record Halt : Type 0 where
  pub position : Position
  pub stop : Stop
  pub born : List ℕ
  pub owed : Option ℕ

-- with this signal
abbrev pub halt_by : (signal : ℕ) → Position → ℕ × ℕ → Cause → Halt
halt_by signal at whose cause = record {
  position = at;
  stop = record { signal = signal; whose = whose; cause = cause };
  born = [];
  owed = None;
}

-- with 5
abbrev pub halt_at : Position → ℕ × ℕ → Cause → Halt
halt_at at whose cause = halt_by trap_signal at whose cause

-- A halt makes its thread and that thread's process the current ones, and that thread the one that
-- is meant where none is named.
abbrev pub halted_session : Session → Halt → Session
halted_session s halt = record s {
  position = halt.position;
  process = halt.stop.whose.0;
  thread = halt.stop.whose.1;
  meant = halt.stop.whose.1;
  told = s.told ++ halt.born;
  owed = halt.owed;
  goal = None;
}

-- ---- what was sent by the way

abbrev pub some_bytes : List ℕ → List (List ℕ)
some_bytes [] = []
some_bytes (b ∷ bytes) = (b ∷ bytes) ∷ []

-- what a move puts to output or error
abbrev pub puts_between : (before behind : World) → List (List ℕ)
puts_between before behind =
    some_bytes (drop (length before.output) behind.output)
    ++ some_bytes (drop (length before.error) behind.error)

-- what these moves put, in order
abbrev pub puts_along : World → List (MoveKind × Moment) → List (List ℕ)
puts_along w [] = []
puts_along w (move ∷ moves) = puts_between w move.1.world ++ puts_along move.1.world moves

-- what was put from one position on to a later one
abbrev pub puts_from : Position → (later : Position) → List (List ℕ)
puts_from at later =
    puts_along at.moment.world (take (length later.past - length at.past) at.future)
