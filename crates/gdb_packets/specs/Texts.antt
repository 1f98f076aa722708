-- Packets as a client spells them: numbers without zeros in front, in lower case. GDB remote
-- protocol, gdb's manual, appendix E, sections "Packets", "General Query Packets" and "Host I/O
-- Packets".
use Rattle.std.specs.Prelude.{ℕ, true, false, List, [], ◌∷◌, ◌++◌, Option, Some, None}
use Rattle.std.specs.Prelude.{codes, IfSome}
use Rattle.gdb_packets.specs.Hexadecimal.{number_digits}
use Rattle.gdb_packets.specs.Ids.{id_text}
use Rattle.gdb_packets.specs.Openings.{plain_text}
use Rattle.gdb_packets.specs.ReadBack.{IsNumber, IsThreadId}
use Rattle.gdb_packets.specs.declared.packets.Stretch.{Stretch}
use Rattle.gdb_packets.specs.declared.packets.PointKind.{PointKind}
use Rattle.gdb_packets.specs.declared.packets.PointKind.TheVariants.{SoftwareBreakpoint}
use Rattle.gdb_packets.specs.declared.packets.PointKind.TheVariants.{HardwareBreakpoint}
use Rattle.gdb_packets.specs.declared.packets.PointKind.TheVariants.{WriteWatchpoint}
use Rattle.gdb_packets.specs.declared.packets.PointKind.TheVariants.{ReadWatchpoint}
use Rattle.gdb_packets.specs.declared.packets.PointKind.TheVariants.{AccessWatchpoint}
use Rattle.gdb_packets.specs.declared.packets.Point.{Point}
use Rattle.gdb_packets.specs.declared.packets.Packet.{Packet}
use Rattle.gdb_packets.specs.declared.packets.Packet.TheVariants.{Alone, Supported, Attached, Alive}
use Rattle.gdb_packets.specs.declared.packets.Packet.TheVariants.{GeneralThread, ResumedThread}
use Rattle.gdb_packets.specs.declared.packets.Packet.TheVariants.{Register, Memory, Write, Insert}
use Rattle.gdb_packets.specs.declared.packets.Packet.TheVariants.{Remove, ResumeForms, Resume}
use Rattle.gdb_packets.specs.declared.packets.Packet.TheVariants.{Detach, KillProcess, Description}
use Rattle.gdb_packets.specs.declared.packets.Packet.TheVariants.{ExecFile, Threads, SetFileSystem}
use Rattle.gdb_packets.specs.declared.packets.Packet.TheVariants.{CloseFile, OpenFile, FileStatus}
use Rattle.gdb_packets.specs.declared.packets.Packet.TheVariants.{ReadFile, Monitor, Malformed}
use Rattle.gdb_packets.specs.declared.packets.Packet.TheVariants.{Unknown}

-- ---- fields

-- two numbers
abbrev pub numbers_text : ℕ → ℕ → List ℕ
numbers_text a b = number_digits a ++ 44 ∷ number_digits b

abbrev pub stretch_text : Stretch → List ℕ
stretch_text s = numbers_text s.from s.length

-- a number that may be left out
abbrev pub number_text : Option ℕ → List ℕ
number_text None = []
number_text (Some n) = number_digits n

-- the same, behind a mark
abbrev pub marked_text : ℕ → Option ℕ → List ℕ
marked_text mark None = []
marked_text mark (Some n) = mark ∷ number_digits n

-- the number of a point
abbrev pub kind_number : PointKind → ℕ
kind_number SoftwareBreakpoint = 0
kind_number HardwareBreakpoint = 1
kind_number WriteWatchpoint = 2
kind_number ReadWatchpoint = 3
kind_number AccessWatchpoint = 4

abbrev pub point_text : Point → List ℕ
point_text p = number_digits (kind_number p.kind) ++ 44 ∷ stretch_text p.at

-- ---- packets

-- of a packet that stands for more than one text, one of them; what a person asks has none here
abbrev pub packet_text : Packet → List ℕ
packet_text (Alone plain) = plain_text plain
packet_text (Supported false) = codes "qSupported"
packet_text (Supported true) = codes "qSupported:fork-events+"
packet_text (Attached process) = codes "qAttached" ++ marked_text 58 process
packet_text (Alive id) = codes "T" ++ id_text id
packet_text (GeneralThread id) = codes "Hg" ++ id_text id
packet_text (ResumedThread id) = codes "Hc" ++ id_text id
packet_text (Register number) = codes "p" ++ number_digits number
packet_text (Memory part) = codes "m" ++ stretch_text part
packet_text Write = codes "M"
packet_text (Insert point) = codes "Z" ++ point_text point
packet_text (Remove point) = codes "z" ++ point_text point
packet_text ResumeForms = codes "vCont?"
packet_text Resume = codes "vCont;c"
packet_text (Detach process) = codes "D" ++ marked_text 59 process
packet_text (KillProcess process) = codes "vKill;" ++ number_digits process
packet_text (Description part) = codes "qXfer:features:read:target.xml:" ++ stretch_text part
packet_text (ExecFile process part) =
    codes "qXfer:exec-file:read:" ++ (number_text process ++ 58 ∷ stretch_text part)
packet_text (Threads part) = codes "qXfer:threads:read::" ++ stretch_text part
packet_text (SetFileSystem number) = codes "vFile:setfs:" ++ number_digits number
packet_text (CloseFile number) = codes "vFile:close:" ++ number_digits number
packet_text OpenFile = codes "vFile:open:,0,0"
packet_text (FileStatus number) = codes "vFile:fstat:" ++ number_digits number
packet_text (ReadFile file part) =
    codes "vFile:pread:" ++ (number_digits file ++ 44 ∷ numbers_text part.length part.from)
packet_text _ = []

-- ---- what has a text

abbrev pub IsStretch : Stretch → Type 0
IsStretch s = IsNumber s.from × IsNumber s.length

abbrev pub IsSpelled : Packet → Type 0
IsSpelled (Attached process) = IfSome process IsNumber
IsSpelled (Alive id) = IsThreadId id
IsSpelled (GeneralThread id) = IsThreadId id
IsSpelled (ResumedThread id) = IsThreadId id
IsSpelled (Register number) = IsNumber number
IsSpelled (Memory part) = IsStretch part
IsSpelled (Insert point) = IsStretch point.at
IsSpelled (Remove point) = IsStretch point.at
IsSpelled (Detach process) = IfSome process IsNumber
IsSpelled (KillProcess process) = IsNumber process
IsSpelled (Description part) = IsStretch part
IsSpelled (ExecFile process part) = IfSome process IsNumber × IsStretch part
IsSpelled (Threads part) = IsStretch part
IsSpelled (SetFileSystem number) = IsNumber number
IsSpelled (CloseFile number) = IsNumber number
IsSpelled (FileStatus number) = IsNumber number
IsSpelled (ReadFile file part) = IsNumber file × IsStretch part
IsSpelled (Monitor command) = ⊥
IsSpelled Malformed = ⊥
IsSpelled Unknown = ⊥
IsSpelled _ = Unit {0}
