-- Which threads a resumption is for, and what each of them does. GDB remote protocol, gdb's manual,
-- appendix E, section "Packets", `vCont`. That 0 is as good as all is this project's own rule.
use Rattle.std.specs.Prelude.{ℕ, ◌==◌, ◌&&◌, ◌||◌, Bool, true, false, List, Option, Some, None}
use Rattle.std.specs.Prelude.{find}
use Rattle.std.specs.Prelude.{option_map, nat_lt, nat_le, unwrap_or}
use Rattle.std.specs.List.{list_any}
use Rattle.group_moves.specs.Moments.{Moment}
use Rattle.gdb_packets.specs.declared.ids.Which.{Which}
use Rattle.gdb_packets.specs.declared.ids.Which.TheVariants.{All, Any, Only}
use Rattle.gdb_packets.specs.declared.ids.ThreadId.{ThreadId}
use Rattle.gdb_packets.specs.declared.ids.ThreadId.TheVariants.{Both, ProcessAlone, ThreadAlone}
use Rattle.gdb_packets.specs.declared.resumptions.Action.{Action}
use Rattle.gdb_packets.specs.declared.resumptions.Action.TheVariants.{Continue, ContinueSignal}
use Rattle.gdb_packets.specs.declared.resumptions.Action.TheVariants.{Range}
use Rattle.gdb_packets.specs.declared.resumptions.Resumption.{Resumption}
use Rattle.debug_session.specs.Homes.{is_some_number, home_of}

-- ---- ids

abbrev pub which_fits : Which → ℕ → Bool
which_fits All n = true
which_fits Any n = true
which_fits (Only k) n = k == n

-- an id fits this process's thread
abbrev pub id_fits : ThreadId → (p t : ℕ) → Bool
id_fits (Both process thread) p t = which_fits process p && which_fits thread t
id_fits (ProcessAlone process) p t = which_fits process p
id_fits (ThreadAlone thread) p t = which_fits thread t

-- a part of an id fits a thread that this process has at some moment
abbrev pub which_is_of : List Moment → Which → ℕ → Bool
which_is_of moments All p = true
which_is_of moments Any p = true
which_is_of moments (Only t) p = is_some_number p (home_of moments t)

-- an id fits a process or a thread of it
abbrev pub id_names : List Moment → ThreadId → ℕ → Bool
id_names moments (Both process thread) p = which_fits process p && which_is_of moments thread p
id_names moments (ProcessAlone process) p = which_fits process p
id_names moments (ThreadAlone thread) p = which_is_of moments thread p

-- the one thread that an id names
abbrev pub which_only : Which → Option ℕ
which_only All = None
which_only Any = None
which_only (Only t) = Some t

abbrev pub thread_named : ThreadId → Option ℕ
thread_named (Both process thread) = which_only thread
thread_named (ProcessAlone process) = None
thread_named (ThreadAlone thread) = which_only thread

-- ---- actions

abbrev pub is_range_action : Action → Bool
is_range_action (Range low high) = true
is_range_action _ = false

-- a step, or steps within a range
abbrev pub is_stepping : Action → Bool
is_stepping Continue = false
is_stepping (ContinueSignal signal) = false
is_stepping _ = true

-- Of several ranges the first counts for all.
abbrev pub range_action : List Resumption → Action → Action
range_action rs (Range low high) =
    unwrap_or (option_map (λ (r : Resumption). r.action) (find (λ r. is_range_action r.action) rs))
    (Range low high)
range_action rs action = action

-- The first action that fits a thread is its action.
abbrev pub action_of_thread : List Resumption → (p t : ℕ) → Option Action
action_of_thread rs p t =
    option_map (λ (r : Resumption). range_action rs r.action)
    (find (λ r. id_fits r.threads p t) rs)

-- some action is for a process, or for a thread of it
abbrev pub are_for : List Moment → List Resumption → ℕ → Bool
are_for moments rs p = list_any (λ r. id_names moments r.threads p) rs

-- Behind a move that led to this pc the thread stops: by a step always, in a range where the pc has
-- left it.
abbrev pub is_stopping : (pc : ℕ) → Action → Bool
is_stopping pc Continue = false
is_stopping pc (ContinueSignal signal) = false
is_stopping pc (Range low high) = nat_lt pc low || nat_le high pc
is_stopping pc _ = true
