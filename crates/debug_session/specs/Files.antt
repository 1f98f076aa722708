-- The files that were run, as a client reads them. GDB remote protocol, gdb's manual, appendix E,
-- sections "General Query Packets", `qXfer:exec-file:read`, and "Host I/O Packets"; which files
-- there are, and their names, is this project's own rule.
use Rattle.std.specs.Prelude.{ℕ, ◌==◌, ◌||◌, Bool, List, [], ◌∷◌, ◌++◌, length, map, take, drop}
use Rattle.std.specs.Prelude.{min, replicate, reverse, position, codes, bytes_eq, is_some}
use Rattle.std.specs.Prelude.{slice_get, Option, Some, None, unwrap_or, option_and_then}
use Rattle.std.specs.Prelude.{if◌then◌else◌}
use Rattle.std.specs.Int.{to_le_bytes, w64}
use Rattle.dos_world.specs.World.{World, process_at}
use Rattle.gdb_packets.specs.Around.{around}
use Rattle.gdb_packets.specs.Escapes.{escaped}
use Rattle.gdb_packets.specs.Hexadecimal.{number_digits, bytes_from}
use Rattle.gdb_packets.specs.Openings.{opening_text}
use Rattle.gdb_packets.specs.declared.openings.Opening.TheVariants as opening
use Rattle.gdb_packets.specs.declared.packets.Stretch.{Stretch}
use Rattle.debug_session.specs.Sessions.{Session, is_shown}
use Rattle.debug_session.specs.Lists.{part_told}
use Rattle.debug_session.specs.Pages.{image_name}

-- ---- names

-- a name with `/` before it, where it doesn't begin so
abbrev pub rooted : (name : List ℕ) → List ℕ
rooted [] = 47 ∷ []
rooted (c ∷ cs) = if c == 47 then c ∷ cs else 47 ∷ c ∷ cs

-- the process is shown, or was born by this moment
abbrev pub is_known : Session → (p : ℕ) → Bool
is_known s p =
    let w : World = s.position.moment.world in is_shown s w p || is_some (process_at w p)

abbrev pub known_name : Session → (p : ℕ) → Option (List ℕ)
known_name s p = if is_known s p then image_name s p else None

abbrev pub name_told : Option (List ℕ) → Stretch → List ℕ
name_told None part = codes "E01"
name_told (Some name) part = part_told (rooted name) part

-- `qXfer:exec-file:read`, of the current process where none is named
abbrev pub exec_file_told : Session → Option ℕ → Stretch → List ℕ
exec_file_told s process part = name_told (known_name s (unwrap_or process s.process)) part

-- ---- `vFile:open`

-- the name that stands in the packet
abbrev pub name_opened : (text : List ℕ) → Option (List ℕ)
name_opened text =
    option_and_then (λ (parts : List ℕ × List ℕ). bytes_from parts.0)
    (around 44 (drop (length (opening_text opening.OpenFile)) text))

-- the place of a file of this name
abbrev pub place_of_name : Session → List ℕ → Option ℕ
place_of_name s name =
    position (λ (file : List ℕ). bytes_eq file name) (map rooted s.recording.names)

abbrev pub number_or_error : Option ℕ → List ℕ
number_or_error (Some k) = codes "F" ++ number_digits k
number_or_error None = codes "F-1,2"

-- A file is open as long as the session lasts; its number is its place, from 0.
abbrev pub file_opened : Session → (text : List ℕ) → List ℕ
file_opened s text = number_or_error (option_and_then (place_of_name s) (name_opened text))

-- ---- what is told of a file

abbrev pub no_file : List ℕ
no_file = codes "F-1,9"

-- how many bytes follow, and these
abbrev pub counted_bytes : List ℕ → List ℕ
counted_bytes bytes = codes "F" ++ number_digits (length bytes) ++ codes ";" ++ escaped bytes

-- A plain file that all may read, of so many bytes: the mode at 8 and the length at 28, most
-- significant byte first.
abbrev pub status_bytes : (count : ℕ) → List ℕ
status_bytes count =
    replicate 8 0 ++ 0x00 ∷ 0x00 ∷ 0x81 ∷ 0xa4 ∷ replicate 16 0 ++ reverse (to_le_bytes w64 count)
    ++ replicate 28 0

-- `vFile:fstat`
abbrev pub status_told : Option (List ℕ) → List ℕ
status_told None = no_file
status_told (Some bytes) = counted_bytes (status_bytes (length bytes))

-- `vFile:pread`: at most 4096 bytes
abbrev pub piece_told : Option (List ℕ) → Stretch → List ℕ
piece_told None part = no_file
piece_told (Some bytes) part = counted_bytes (take (min part.length 4096) (drop part.from bytes))

abbrev pub file_status_told : Session → (file : ℕ) → List ℕ
file_status_told s file = status_told (slice_get s.recording.files file)

abbrev pub file_piece_told : Session → (file : ℕ) → Stretch → List ℕ
file_piece_told s file part = piece_told (slice_get s.recording.files file) part
