-- How packets begin. GDB remote protocol, gdb's manual, appendix E, sections "Packets", "General
-- Query Packets" and "Host I/O Packets". No opening begins another, as far as names go.
use Rattle.std.specs.Prelude.{ℕ, ◌==◌, Bool, true, false, not, ◌&&◌, ◌||◌, List}
use Rattle.std.specs.Prelude.{[], ◌∷◌, length, drop, Option, find, codes, nat_eq}
use Rattle.std.specs.List.{starts_with}
use Rattle.gdb_packets.specs.declared.openings.Plain.{Plain}
use Rattle.gdb_packets.specs.declared.openings.Plain.TheVariants.{NoAcknowledgement, StopReason}
use Rattle.gdb_packets.specs.declared.openings.Plain.TheVariants.{CurrentThread, FirstThreads}
use Rattle.gdb_packets.specs.declared.openings.Plain.TheVariants.{NextThreads, Registers, Continue}
use Rattle.gdb_packets.specs.declared.openings.Plain.TheVariants.{Step, BackContinue, BackStep}
use Rattle.gdb_packets.specs.declared.openings.Plain.TheVariants.{Kill}
use Rattle.gdb_packets.specs.declared.openings.Opening.{Opening}
use Rattle.gdb_packets.specs.declared.openings.Opening.TheVariants.{Supported, Attached, Alive}
use Rattle.gdb_packets.specs.declared.openings.Opening.TheVariants.{GeneralThread, ResumedThread}
use Rattle.gdb_packets.specs.declared.openings.Opening.TheVariants.{Register, Memory}
use Rattle.gdb_packets.specs.declared.openings.Opening.TheVariants.{WriteRegisters, WriteRegister}
use Rattle.gdb_packets.specs.declared.openings.Opening.TheVariants.{WriteMemory, Insert, Remove}
use Rattle.gdb_packets.specs.declared.openings.Opening.TheVariants.{Resume, Detach, KillProcess}
use Rattle.gdb_packets.specs.declared.openings.Opening.TheVariants.{Description, ExecFile, Threads}
use Rattle.gdb_packets.specs.declared.openings.Opening.TheVariants.{SetFileSystem, CloseFile}
use Rattle.gdb_packets.specs.declared.openings.Opening.TheVariants.{OpenFile, FileStatus, ReadFile}
use Rattle.gdb_packets.specs.declared.openings.Opening.TheVariants.{Command}

-- ---- packets that are their name alone

-- the name
abbrev pub plain_text : Plain → List ℕ
plain_text NoAcknowledgement = codes "QStartNoAckMode"
plain_text StopReason = codes "?"
plain_text CurrentThread = codes "qC"
plain_text FirstThreads = codes "qfThreadInfo"
plain_text NextThreads = codes "qsThreadInfo"
plain_text Registers = codes "g"
plain_text Continue = codes "c"
plain_text Step = codes "s"
plain_text BackContinue = codes "bc"
plain_text BackStep = codes "bs"
plain_text Kill = codes "k"

-- all of them
abbrev pub plains : List Plain
plains =
    NoAcknowledgement ∷ StopReason ∷ CurrentThread ∷ FirstThreads ∷ NextThreads ∷ Registers
    ∷ Continue ∷ Step ∷ BackContinue ∷ BackStep ∷ Kill ∷ []

-- ---- packets with something behind their opening

-- the opening
abbrev pub opening_text : Opening → List ℕ
opening_text Supported = codes "qSupported"
opening_text Attached = codes "qAttached"
opening_text Alive = codes "T"
opening_text GeneralThread = codes "Hg"
opening_text ResumedThread = codes "Hc"
opening_text Register = codes "p"
opening_text Memory = codes "m"
opening_text WriteRegisters = codes "G"
opening_text WriteRegister = codes "P"
opening_text WriteMemory = codes "M"
opening_text Insert = codes "Z"
opening_text Remove = codes "z"
opening_text Resume = codes "vCont"
opening_text Detach = codes "D"
opening_text KillProcess = codes "vKill;"
opening_text Description = codes "qXfer:features:read:target.xml:"
opening_text ExecFile = codes "qXfer:exec-file:read:"
opening_text Threads = codes "qXfer:threads:read::"
opening_text SetFileSystem = codes "vFile:setfs:"
opening_text CloseFile = codes "vFile:close:"
opening_text OpenFile = codes "vFile:open:"
opening_text FileStatus = codes "vFile:fstat:"
opening_text ReadFile = codes "vFile:pread:"
opening_text Command = codes "qRcmd,"

-- all of them
abbrev pub openings : List Opening
openings =
    Supported ∷ Attached ∷ Alive ∷ GeneralThread ∷ ResumedThread ∷ Register ∷ Memory
    ∷ WriteRegisters ∷ WriteRegister ∷ WriteMemory ∷ Insert ∷ Remove ∷ Resume ∷ Detach
    ∷ KillProcess ∷ Description ∷ ExecFile ∷ Threads ∷ SetFileSystem ∷ CloseFile ∷ OpenFile
    ∷ FileStatus ∷ ReadFile ∷ Command ∷ []

-- ---- which a packet begins as

-- A name of `q`, `Q` or `v` is known by all its letters, up to a separator.
abbrev pub ends_name : List ℕ → Bool
ends_name [] = true
ends_name (c ∷ cs) = c == 58 || (c == 44 || (c == 59 || c == 63))

-- whether a packet begins so
abbrev pub begins_as : List ℕ → List ℕ → (is_name : Bool) → Bool
begins_as text opening is_name =
    starts_with nat_eq text opening && (not is_name || ends_name (drop (length opening) text))

-- which are such names
abbrev pub plain_is_name : Plain → Bool
plain_is_name NoAcknowledgement = true
plain_is_name CurrentThread = true
plain_is_name FirstThreads = true
plain_is_name NextThreads = true
plain_is_name _ = false

abbrev pub opening_is_name : Opening → Bool
opening_is_name Supported = true
opening_is_name Attached = true
opening_is_name Resume = true
opening_is_name _ = false

-- the first name of a table that it begins with
abbrev pub plain_in : List Plain → List ℕ → Option Plain
plain_in table text =
    find (λ plain. begins_as text (plain_text plain) (plain_is_name plain)) table

abbrev pub plain_opening : List ℕ → Option Plain
plain_opening text = plain_in plains text

-- the first opening of a table that it begins with
abbrev pub opening_in : List Opening → List ℕ → Option Opening
opening_in table text =
    find (λ opening. begins_as text (opening_text opening) (opening_is_name opening)) table

abbrev pub opening_among : List ℕ → Option Opening
opening_among text = opening_in openings text
