-- What packets ask. GDB remote protocol, gdb's manual, appendix E, sections "Packets", "General
-- Query Packets", "Stop Reply Packets" and "Host I/O Packets"; which are known, and that another
-- point and a packet that isn't known are alike, is this project's own rule.
use Rattle.std.specs.Prelude.{ℕ, ◌==◌, Bool, true, false, List, [], ◌∷◌, length, drop, Option, Some}
use Rattle.std.specs.Prelude.{None, codes, bytes_eq, option_map, if◌then◌else◌, unwrap_or}
use Rattle.std.specs.List.{list_any}
use Rattle.gdb_packets.specs.Hexadecimal.{◌>>=◌, number_from, bytes_from}
use Rattle.gdb_packets.specs.Around.{around, between_marks}
use Rattle.gdb_packets.specs.Ids.{id_from}
use Rattle.gdb_packets.specs.Openings.{plain_text, opening_text, plain_opening, opening_among}
use Rattle.gdb_packets.specs.Resumptions.{if_at_end, resumptions_from}
use Rattle.gdb_packets.specs.Commands.{command_from}
use Rattle.gdb_packets.specs.declared.openings.Plain.{Plain}
use Rattle.gdb_packets.specs.declared.openings.Opening.{Opening}
use Rattle.gdb_packets.specs.declared.openings.Opening.TheVariants as opening
use Rattle.gdb_packets.specs.declared.packets.Stretch.{Stretch}
use Rattle.gdb_packets.specs.declared.packets.PointKind.{PointKind}
use Rattle.gdb_packets.specs.declared.packets.PointKind.TheVariants.{SoftwareBreakpoint}
use Rattle.gdb_packets.specs.declared.packets.PointKind.TheVariants.{HardwareBreakpoint}
use Rattle.gdb_packets.specs.declared.packets.PointKind.TheVariants.{WriteWatchpoint}
use Rattle.gdb_packets.specs.declared.packets.PointKind.TheVariants.{ReadWatchpoint}
use Rattle.gdb_packets.specs.declared.packets.PointKind.TheVariants.{AccessWatchpoint}
use Rattle.gdb_packets.specs.declared.packets.Point.{Point}
use Rattle.gdb_packets.specs.declared.packets.Packet.{Packet}
use Rattle.gdb_packets.specs.declared.packets.Packet.TheVariants.{Alone, Supported, Attached, Alive}
use Rattle.gdb_packets.specs.declared.packets.Packet.TheVariants.{GeneralThread, ResumedThread}
use Rattle.gdb_packets.specs.declared.packets.Packet.TheVariants.{Register, Memory, Write, Insert}
use Rattle.gdb_packets.specs.declared.packets.Packet.TheVariants.{Remove, ResumeForms, Resume}
use Rattle.gdb_packets.specs.declared.packets.Packet.TheVariants.{Detach, KillProcess, Description}
use Rattle.gdb_packets.specs.declared.packets.Packet.TheVariants.{ExecFile, Threads, SetFileSystem}
use Rattle.gdb_packets.specs.declared.packets.Packet.TheVariants.{CloseFile, OpenFile, FileStatus}
use Rattle.gdb_packets.specs.declared.packets.Packet.TheVariants.{ReadFile, Monitor, Malformed}
use Rattle.gdb_packets.specs.declared.packets.Packet.TheVariants.{Unknown}

-- ---- fields

-- two numbers, of what stands before the comma and behind it
abbrev pub stretch_in : List ℕ × List ℕ → Option Stretch
stretch_in parts = do
  start ← number_from parts.0
  count ← number_from parts.1
  Some (record { from = start; length = count })

-- `A,N`
abbrev pub stretch_from : List ℕ → Option Stretch
stretch_from text = around 44 text >>= stretch_in

-- nothing, or a mark and a number
abbrev pub number_behind : ℕ → List ℕ → Option (Option ℕ)
number_behind mark [] = Some None
number_behind mark (c ∷ cs) = if c == mark then option_map Some (number_from cs) else None

-- a number that may be left out
abbrev pub number_or_none : List ℕ → Option (Option ℕ)
number_or_none [] = Some None
number_or_none (c ∷ cs) = option_map Some (number_from (c ∷ cs))

-- whether one of the client's items is that of forks
abbrev pub has_item : List (List ℕ) → Bool
has_item items = list_any (λ item. bytes_eq item (codes "fork-events+")) items

-- the client's items in `qSupported`, behind the colon
abbrev pub has_forks : List ℕ → Bool
has_forks [] = false
has_forks (c ∷ cs) = has_item (between_marks 59 cs)

-- ---- points

-- which point a number names
abbrev pub point_kind : ℕ → Option PointKind
point_kind n =
    if n == 0 then Some SoftwareBreakpoint
    else if n == 1 then Some HardwareBreakpoint
    else if n == 2 then Some WriteWatchpoint
    else if n == 3 then Some ReadWatchpoint
    else if n == 4 then Some AccessWatchpoint
    else None

-- is set or is gone
abbrev pub point_packet : Bool → Point → Packet
point_packet true point = Insert point
point_packet false point = Remove point

-- `K`, by its text
abbrev pub point_kind_from : List ℕ → Option PointKind
point_kind_from text = number_from text >>= point_kind

-- a point of this kind, `A,N`
abbrev pub point_at : PointKind → Stretch → Point
point_at which where_at = record { kind = which; at = where_at }

-- of the kind and what stands behind the comma
abbrev pub point_of : (Point → Packet) → Option PointKind → List ℕ → Option Packet
point_of packet (Some which) text =
    option_map (λ where_at. packet (point_at which where_at)) (stretch_from text)
point_of packet None text = Some Unknown

-- where no comma stands, there is no `A,N`
abbrev pub point_alone : Option PointKind → Option Packet
point_alone (Some which) = None
point_alone None = Some Unknown

abbrev pub point_in : (Point → Packet) → Option (List ℕ × List ℕ) → List ℕ → Option Packet
point_in packet (Some parts) text = point_of packet (point_kind_from parts.0) parts.1
point_in packet None text = point_alone (point_kind_from text)

-- `K,A,N`; what has another K is unknown
abbrev pub point_from : (Point → Packet) → List ℕ → Option Packet
point_from packet text = point_in packet (around 44 text) text

-- ---- files

-- `P:O,N`, of what stands before the colon and behind it
abbrev pub exec_file_in : List ℕ × List ℕ → Option Packet
exec_file_in parts = do
  process ← number_or_none parts.0
  part ← stretch_from parts.1
  Some (ExecFile process part)

abbrev pub exec_file_from : List ℕ → Option Packet
exec_file_from text = around 58 text >>= exec_file_in

-- `H,..`, of what stands before the comma and behind it
abbrev pub open_file_in : List ℕ × List ℕ → Option Packet
open_file_in parts = bytes_from parts.0 >>= λ name. Some OpenFile

abbrev pub open_file_from : List ℕ → Option Packet
open_file_from text = around 44 text >>= open_file_in

-- `k,N,O`: the file, how much, and from where
abbrev pub read_file_of : ℕ → Stretch → Packet
read_file_of file part = ReadFile file (record { from = part.length; length = part.from })

abbrev pub read_file_in : List ℕ × List ℕ → Option Packet
read_file_in parts = do
  file ← number_from parts.0
  part ← stretch_from parts.1
  Some (read_file_of file part)

abbrev pub read_file_from : List ℕ → Option Packet
read_file_from text = around 44 text >>= read_file_in

-- ---- resumptions, and what a person asks

abbrev pub resume_from : List ℕ → Option Packet
resume_from text =
    if bytes_eq text (codes "?") then Some ResumeForms
    else option_map (λ rs. Resume) (resumptions_from text)

abbrev pub monitor_from : List ℕ → Option Packet
monitor_from text = option_map (λ bytes. Monitor (command_from bytes)) (bytes_from text)

-- ---- all of them

-- what stands behind an opening
abbrev pub packet_behind : Opening → List ℕ → Option Packet
packet_behind opening.Supported text = Some (Supported (has_forks text))
packet_behind opening.Attached text = option_map Attached (number_behind 58 text)
packet_behind opening.Alive text = option_map Alive (id_from text)
packet_behind opening.GeneralThread text = option_map GeneralThread (id_from text)
packet_behind opening.ResumedThread text = option_map ResumedThread (id_from text)
packet_behind opening.Register text = option_map Register (number_from text)
packet_behind opening.Memory text = option_map Memory (stretch_from text)
packet_behind opening.WriteRegisters text = Some Write
packet_behind opening.WriteRegister text = Some Write
packet_behind opening.WriteMemory text = Some Write
packet_behind opening.Insert text = point_from (point_packet true) text
packet_behind opening.Remove text = point_from (point_packet false) text
packet_behind opening.Resume text = resume_from text
packet_behind opening.Detach text = option_map Detach (number_behind 59 text)
packet_behind opening.KillProcess text = option_map KillProcess (number_from text)
packet_behind opening.Description text = option_map Description (stretch_from text)
packet_behind opening.ExecFile text = exec_file_from text
packet_behind opening.Threads text = option_map Threads (stretch_from text)
packet_behind opening.SetFileSystem text = option_map SetFileSystem (number_from text)
packet_behind opening.CloseFile text = option_map CloseFile (number_from text)
packet_behind opening.OpenFile text = open_file_from text
packet_behind opening.FileStatus text = option_map FileStatus (number_from text)
packet_behind opening.ReadFile text = read_file_from text
packet_behind opening.Command text = monitor_from text

-- by its opening
abbrev pub packet_opened : Option Opening → List ℕ → Packet
packet_opened (Some o) text =
    unwrap_or (packet_behind o (drop (length (opening_text o)) text)) Malformed
packet_opened None text = Unknown

-- its name alone
abbrev pub packet_alone : Plain → List ℕ → Packet
packet_alone plain text = unwrap_or (if_at_end (Alone plain) text) Malformed

-- by its name
abbrev pub packet_named : Option Plain → List ℕ → Packet
packet_named (Some plain) text =
    packet_alone plain (drop (length (plain_text plain)) text)
packet_named None text = packet_opened (opening_among text) text

-- What begins as a packet and doesn't go on as it says is malformed.
abbrev pub packet_from : List ℕ → Packet
packet_from text = packet_named (plain_opening text) text
