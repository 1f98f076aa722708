-- How the current process and thread are named by a client. GDB remote protocol, gdb's manual,
-- appendix E, section "Packets", `H`; whom an id names that leaves the thread open is this
-- project's own rule.
use Rattle.std.specs.Prelude.{ℕ, ◌||◌, is_some, unwrap_or, if◌then◌else◌}
use Rattle.dos_world.specs.World.{World, process_at, first_thread}
use Rattle.gdb_packets.specs.declared.ids.Which.{Which}
use Rattle.gdb_packets.specs.declared.ids.Which.TheVariants.{Only}
use Rattle.gdb_packets.specs.declared.ids.ThreadId.{ThreadId}
use Rattle.gdb_packets.specs.declared.ids.ThreadId.TheVariants.{Both, ProcessAlone, ThreadAlone}
use Rattle.debug_session.specs.Positions.{all_moments}
use Rattle.debug_session.specs.Homes.{is_some_number, birth_thread}
use Rattle.debug_session.specs.Sessions.{Session, is_shown, home_in}

-- ---- a thread that stands for its process

-- the thread that it was born with, where it is shown or was born by this moment; else 0
abbrev pub absent_thread : Session → World → ℕ → ℕ
absent_thread s w p =
    if is_shown s w p || is_some (process_at w p)
    then unwrap_or (birth_thread (all_moments s.position) p) 0 else 0

-- The lowest that lives, or one that doesn't.
abbrev pub standing_thread : Session → ℕ → ℕ
standing_thread s p =
    let w : World = s.position.moment.world in
    unwrap_or (first_thread w p) (absent_thread s w p)

-- The current thread stays where it is the process's.
abbrev pub with_process : Session → ℕ → Session
with_process s p =
    if is_some_number p (home_in s s.thread) then record s { process = p }
    else record s { process = p; thread = standing_thread s p }

-- ---- by an id

-- with its own process
abbrev pub with_current : Session → ℕ → Session
with_current s t = record s { process = unwrap_or (home_in s t) s.process; thread = t }

abbrev pub named_alone : Session → Which → Session
named_alone s (Only t) = with_current s t
named_alone s _ = with_process s s.process

abbrev pub named_process : Session → Which → Session
named_process s (Only p) = with_process s p
named_process s _ = with_process s s.process

abbrev pub named_both : Session → Which → Which → Session
named_both s (Only p) (Only t) = record s { process = p; thread = t }
named_both s (Only p) thread = with_process s p
named_both s process thread = named_alone s thread

-- `Hg`
abbrev pub named_current : Session → ThreadId → Session
named_current s (Both process thread) = named_both s process thread
named_current s (ProcessAlone process) = named_process s process
named_current s (ThreadAlone thread) = named_alone s thread
