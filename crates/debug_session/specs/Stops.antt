-- Why a client is told that the run stopped, and how. GDB remote protocol, gdb's manual, appendix
-- E, section "Stop Reply Packets"; the numbers of faults are this project's own rule.
use Rattle.std.specs.Prelude.{ℕ, ◌==◌, List, [], ◌++◌, codes, if◌then◌else◌}
use Rattle.gdb_packets.specs.Hexadecimal.{byte_digits, bytes_digits, number_digits}
use Rattle.gdb_packets.specs.Ids.{id_text}
use Rattle.gdb_packets.specs.declared.ids.Which.TheVariants.{Only}
use Rattle.gdb_packets.specs.declared.ids.ThreadId.TheVariants.{Both}
use Rattle.debug_session.specs.Points.{WatchKind, Watchpoint}
use Rattle.debug_session.specs.declared.points.WatchKind.TheVariants.{Changes, Reads, Accesses}
pub use Rattle.debug_session.specs.declared.stops.Cause.{Cause}
pub use Rattle.debug_session.specs.declared.stops.Stop.{Stop}
use Rattle.debug_session.specs.declared.stops.Cause.TheVariants.{Broke, Watched, Bore, ReachedEnd}
use Rattle.debug_session.specs.declared.stops.Cause.TheVariants.{ReachedStart, Plainly}

-- a thread of a process, as it is sent
abbrev pub pair_text : ℕ × ℕ → List ℕ
pair_text pair = id_text (Both (Only pair.0) (Only pair.1))

-- ---- signals, by the numbers that gdb gives them

-- 5, by which gdb is told of all stops but faults and gone moments
abbrev pub trap_signal : ℕ
trap_signal = 5

-- 2, of a moment that was gone to
abbrev pub gone_signal : ℕ
gone_signal = 2

-- an illegal instruction, a breakpoint instruction, a misaligned access, and one that no page
-- allows
abbrev pub fault_signal : (number : ℕ) → ℕ
fault_signal number =
    if number == 4 then 4 else if number == 7 then 10 else if number == 11 then 11 else 5

-- ---- as it is sent

abbrev pub watch_word : WatchKind → List ℕ
watch_word Changes = codes "watch:"
watch_word Reads = codes "rwatch:"
watch_word Accesses = codes "awatch:"

abbrev pub cause_text : Cause → List ℕ
cause_text Broke = codes "swbreak:;"
cause_text (Watched point) = watch_word point.kind ++ number_digits point.address ++ codes ";"
cause_text (Bore p t) = codes "fork:" ++ pair_text (p, t) ++ codes ";"
cause_text ReachedEnd = codes "replaylog:end;"
cause_text ReachedStart = codes "replaylog:begin;"
cause_text Plainly = []

abbrev pub stop_text : Stop → List ℕ
stop_text stop =
    codes "T" ++ byte_digits stop.signal ++ codes "thread:" ++ pair_text stop.whose ++ codes ";"
    ++ cause_text stop.cause

-- bytes for the person's console
abbrev pub console_text : List ℕ → List ℕ
console_text bytes = codes "O" ++ bytes_digits bytes
