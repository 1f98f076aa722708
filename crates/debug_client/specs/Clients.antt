-- What a client has named, set and was told of. This project's own rule.
use Rattle.std.specs.Prelude.{ℕ, ◌&&◌, ◌||◌, not, nat_lt, Bool, true, false, List, [], Option, None}
use Rattle.std.specs.Prelude.{codes}
use Rattle.dos_world.specs.Numbered.{run_of}
use Rattle.gdb_packets.specs.declared.ids.ThreadId.{ThreadId}
use Rattle.gdb_packets.specs.declared.ids.ThreadId.TheVariants.{ThreadAlone}
use Rattle.gdb_packets.specs.declared.ids.Which.TheVariants.{All}
use Rattle.gdb_packets.specs.declared.resumptions.Resumption.{Resumption}
use Rattle.debug_session.specs.Homes.{is_some_number}
use Rattle.debug_session.specs.Actions.{thread_named}
use Rattle.debug_session.specs.Positions.{Position}
use Rattle.debug_session.specs.Recordings.{Recording}
use Rattle.debug_session.specs.declared.points.Breakpoint.{Breakpoint}
use Rattle.debug_session.specs.declared.points.Watchpoint.{Watchpoint}
use Rattle.debug_session.specs.declared.points.WatchKind.{WatchKind}
use Rattle.gdb_packets.specs.declared.packets.Point.{Point}
use Rattle.std.specs.Int.{is_in_range}
use Rattle.debug_session.specs.Sessions.{Session}
use Rattle.debug_session.specs.Resuming.{Answered, replies_one, is_step}

-- a session without what is debugged and where one stands in it
pub record ClientView : Type 0 where
  pub process : ℕ
  pub thread : ℕ
  pub meant : ℕ
  pub resumed : ThreadId
  pub told : List ℕ
  pub let_go : List ℕ
  pub is_told_forks : Bool
  pub breakpoints : List Breakpoint
  pub watchpoints : List Watchpoint
  pub owed : Option ℕ
  pub goal : Option (ℕ × ℕ)

-- the session of a client
abbrev pub session_of : ClientView → Recording → Position → Session
session_of c r at = record {
  recording = r;
  position = at;
  process = c.process;
  thread = c.thread;
  resumed = c.resumed;
  told = c.told;
  let_go = c.let_go;
  is_told_forks = c.is_told_forks;
  breakpoints = c.breakpoints;
  watchpoints = c.watchpoints;
  meant = c.meant;
  owed = c.owed;
  goal = c.goal;
}

-- a client that has named nothing yet, of a run of so many images
abbrev pub opening_client : (images : ℕ) → ClientView
opening_client images = record {
  process = 1;
  thread = 1;
  meant = 1;
  resumed = ThreadAlone All;
  told = run_of 1 images;
  let_go = [];
  is_told_forks = false;
  breakpoints = [];
  watchpoints = [];
  owed = None;
  goal = None;
}

-- a watchpoint of the current process
abbrev pub watchpoint_in : ClientView → WatchKind → Point → Watchpoint
watchpoint_in c kind point =
    record { process = c.process; address = point.at.from; length = point.at.length; kind = kind }

-- too many watchpoints, or one of no bytes or of too many
abbrev pub is_refused : (count length : ℕ) → Bool
is_refused count length = nat_lt 16 count || not (is_in_range 1 4096 length)

-- done, or refused
abbrev pub done_text : Bool → List ℕ
done_text true = codes "OK"
done_text false = codes "E01"

-- what a packet comes to that is done or refused
abbrev pub answered_so : Session → Bool → Answered
answered_so s done = replies_one s (done_text done)

-- a step of this thread
abbrev pub is_step_of : Resumption → ℕ → Bool
is_step_of resumption t =
    is_step resumption.action && is_some_number t (thread_named resumption.threads)
