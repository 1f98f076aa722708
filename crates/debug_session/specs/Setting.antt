-- How points are set and taken away. GDB remote protocol, gdb's manual, appendix E, section
-- "Packets", `Z`; the limits are this project's own rule.
use Rattle.std.specs.Prelude.{◌||◌, not, List, length, codes, nat_lt, if◌then◌else◌}
use Rattle.std.specs.Int.{is_in_range}
use Rattle.gdb_packets.specs.declared.packets.PointKind.{PointKind}
use Rattle.gdb_packets.specs.declared.packets.PointKind.TheVariants.{SoftwareBreakpoint}
use Rattle.gdb_packets.specs.declared.packets.PointKind.TheVariants.{HardwareBreakpoint}
use Rattle.gdb_packets.specs.declared.packets.PointKind.TheVariants.{WriteWatchpoint}
use Rattle.gdb_packets.specs.declared.packets.PointKind.TheVariants.{ReadWatchpoint}
use Rattle.gdb_packets.specs.declared.packets.PointKind.TheVariants.{AccessWatchpoint}
use Rattle.gdb_packets.specs.declared.packets.Point.{Point}
use Rattle.debug_session.specs.Points.{WatchKind, Breakpoint, Watchpoint}
use Rattle.debug_session.specs.declared.points.WatchKind.TheVariants.{Changes, Reads, Accesses}
use Rattle.debug_session.specs.Points.{with_breakpoint, without_breakpoint}
use Rattle.debug_session.specs.Points.{with_watchpoint, without_watchpoint}
use Rattle.debug_session.specs.Sessions.{Session}
use Rattle.debug_session.specs.Resuming.{Answered, replies_one}

-- a watchpoint of the current process
abbrev pub watchpoint_of : Session → WatchKind → Point → Watchpoint
watchpoint_of s kind point =
    record { process = s.process; address = point.at.from; length = point.at.length; kind = kind }

-- ---- set: at most 256 breakpoints, and 16 watchpoints of 1 to 4096 bytes

abbrev pub breaks_at : Session → Point → Answered
breaks_at s point =
    let more : List Breakpoint = with_breakpoint s.breakpoints s.process point.at.from in
    if nat_lt 256 (length more) then replies_one s (codes "E01")
    else replies_one (record s { breakpoints = more }) (codes "OK")

abbrev pub watches : Session → WatchKind → Point → Answered
watches s kind point =
    let more : List Watchpoint = with_watchpoint s.watchpoints (watchpoint_of s kind point) in
    if nat_lt 16 (length more) || not (is_in_range 1 4096 point.at.length)
    then replies_one s (codes "E01")
    else replies_one (record s { watchpoints = more }) (codes "OK")

abbrev pub inserts_kind : Session → PointKind → Point → Answered
inserts_kind s SoftwareBreakpoint point = breaks_at s point
inserts_kind s HardwareBreakpoint point = breaks_at s point
inserts_kind s WriteWatchpoint point = watches s Changes point
inserts_kind s ReadWatchpoint point = watches s Reads point
inserts_kind s AccessWatchpoint point = watches s Accesses point

-- `Z`
abbrev pub inserts : Session → Point → Answered
inserts s point = inserts_kind s point.kind point

-- ---- taken away

abbrev pub unbroken : Session → Point → Session
unbroken s point =
    record s { breakpoints = without_breakpoint s.breakpoints s.process point.at.from }

abbrev pub unwatched : Session → WatchKind → Point → Session
unwatched s kind point =
    record s { watchpoints = without_watchpoint s.watchpoints (watchpoint_of s kind point) }

abbrev pub removed_kind : Session → PointKind → Point → Session
removed_kind s SoftwareBreakpoint point = unbroken s point
removed_kind s HardwareBreakpoint point = unbroken s point
removed_kind s WriteWatchpoint point = unwatched s Changes point
removed_kind s ReadWatchpoint point = unwatched s Reads point
removed_kind s AccessWatchpoint point = unwatched s Accesses point

-- `z`
abbrev pub removes : Session → Point → Answered
removes s point = replies_one (removed_kind s point.kind point) (codes "OK")
