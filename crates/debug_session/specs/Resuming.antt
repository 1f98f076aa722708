-- What a packet that resumes comes to: what was put by the way, and a stop. GDB remote protocol,
-- gdb's manual, appendix E, section "Packets", `vCont`, `c`, `s`, `bc`, `bs`; whom a step means
-- that names nobody is this project's own rule.
use Rattle.std.specs.Prelude.{ℕ, ◌&&◌, Bool, true, false, List, [], ◌∷◌, ◌++◌, map, Option, Some}
use Rattle.std.specs.Prelude.{None, unwrap_or, if◌then◌else◌}
use Rattle.gdb_packets.specs.declared.ids.Which.TheVariants.{Only}
use Rattle.gdb_packets.specs.declared.ids.ThreadId.TheVariants.{ThreadAlone}
use Rattle.gdb_packets.specs.declared.resumptions.Action.{Action}
use Rattle.gdb_packets.specs.declared.resumptions.Action.TheVariants.{Continue, Step, StepSignal}
use Rattle.gdb_packets.specs.declared.resumptions.Resumption.{Resumption}
use Rattle.debug_session.specs.Homes.{is_some_number}
use Rattle.debug_session.specs.Actions.{thread_named}
use Rattle.debug_session.specs.Stops.{stop_text}
use Rattle.debug_session.specs.Sessions.{Session, home_pair}
use Rattle.debug_session.specs.Halts.{Halt, halt_at, halted_session, puts_from}
use Rattle.debug_session.specs.Forwards.{forwards}
use Rattle.debug_session.specs.Backwards.{backwards}
use Rattle.debug_session.specs.Goals.{halt_gone}
use Rattle.debug_session.specs.declared.stops.Cause.TheVariants.{Plainly}

-- What a client is sent: a packet, or bytes for the person's console in one.
pub data Reply : Type 0 where
  packet console : List ℕ → Reply

-- a session and what it sends
abbrev pub Answered : Type 0
Answered = Session × List Reply

abbrev pub replies_one : Session → List ℕ → Answered
replies_one s text = (s, packet text ∷ [])

-- ---- what is resumed

-- an action for the threads that the last `Hc` named, which are all at first
abbrev pub continue_actions : Session → List Resumption
continue_actions s = record { action = Continue; threads = s.resumed } ∷ []

-- the thread that a step means: the one that `Hc` named, or else the one that is meant
abbrev pub thread_stepped : Session → ℕ
thread_stepped s = unwrap_or (thread_named s.resumed) s.meant

-- a step, and the others go on
abbrev pub step_actions : Session → List Resumption
step_actions s =
    record { action = Step; threads = ThreadAlone (Only (thread_stepped s)) } ∷ continue_actions s

-- ---- a step that is owed

abbrev pub is_step : Action → Bool
is_step Step = true
is_step (StepSignal signal) = true
is_step _ = false

abbrev pub owed_to : Option ℕ → List Resumption → Option ℕ
owed_to None rs = None
owed_to (Some t) [] = None
owed_to (Some t) (r ∷ rs) =
    if is_step r.action && is_some_number t (thread_named r.threads) then Some t else None

-- ---- halts

-- A moment to go to comes before a step that is owed, which makes no move; else it goes on.
abbrev pub halt_or : Session → List Resumption → Option (ℕ × ℕ) → (owed : Option ℕ) → Halt → Halt
halt_or s rs (Some (round, made)) owed other = halt_gone s rs round made
halt_or s rs None (Some t) other = halt_at s.position (home_pair s t) Plainly
halt_or s rs None None other = other

abbrev pub halt_of : Session → List Resumption → Halt → Halt
halt_of s rs other = halt_or s rs s.goal (owed_to s.owed rs) other

-- Who goes to a moment is told of no puts.
abbrev pub puts_told : Session → Halt → List Reply
puts_told s halt = elim s.goal [
  | Some goal ↦ []
  | None ↦ map console (puts_from s.position halt.position)
]

abbrev pub halted : Session → Halt → Answered
halted s halt = (halted_session s halt, puts_told s halt ++ packet (stop_text halt.stop) ∷ [])

-- ---- the packets

-- `vCont`, `c` and `s`
abbrev pub resumes : Session → List Resumption → Answered
resumes s rs = halted s (halt_of s rs (forwards s rs))

-- `bc`
abbrev pub continues_back : Session → Answered
continues_back s = halted s (halt_of s (continue_actions s) (backwards s (continue_actions s) None))

-- `bs`
abbrev pub steps_back : Session → Answered
steps_back s =
    halted s (halt_of s (step_actions s) (backwards s (step_actions s) (Some (thread_stepped s))))
