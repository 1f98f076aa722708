-- Packets on the wire. GDB remote protocol, gdb's manual, appendix E, sections "Overview" and
-- "Packet Acknowledgment".
use Rattle.std.specs.Prelude.{ℕ, ◌+◌, ◌%◌, ◌==◌, Bool, false, List, [], ◌∷◌, ◌++◌, length, sum}
use Rattle.std.specs.Prelude.{nat_le, Option, Some, None, if◌then◌else◌}
use Rattle.std.specs.Option.{option_map_or}
use Rattle.gdb_packets.specs.Hexadecimal.{nibbles_behind, byte_digits}
use Rattle.gdb_packets.specs.declared.framing.Place.{Place}
use Rattle.gdb_packets.specs.declared.framing.Place.TheVariants.{Outside, Inside, BeforeSum}
use Rattle.gdb_packets.specs.declared.framing.Place.TheVariants.{WithinSum}
use Rattle.gdb_packets.specs.declared.framing.Event.{Event}
use Rattle.gdb_packets.specs.declared.framing.Event.TheVariants.{Again, Packet, TooLong}

-- ---- what is sent

-- the sum of the bytes modulo 256
abbrev pub checksum : List ℕ → ℕ
checksum body = sum body % 256

-- `$`, the bytes, `#`, and the sum
abbrev pub frame : List ℕ → List ℕ
frame body = 36 ∷ body ++ 35 ∷ byte_digits (checksum body)

-- ---- what is read, byte by byte

-- the most bytes of a packet that is taken; this project's own rule
abbrev pub packet_limit : ℕ
packet_limit = 16384

-- where the reading stands; of the packet its bytes, as far as they count, and their sum
pub record Framing : Type 0 where
  pub place : Place
  pub body : List ℕ
  pub running : ℕ

-- at first
abbrev pub framing_begun : Framing
framing_begun = record { place = Outside; body = []; running = 0 }

-- One byte over the limit is kept, which says that it was passed.
abbrev pub with_body_byte : List ℕ → ℕ → List ℕ
with_body_byte body byte =
    if nat_le (length body) packet_limit then body ++ byte ∷ [] else body

-- The two digits are the sum's.
abbrev pub is_checked : ℕ → List ℕ → Bool
is_checked running digits = option_map_or (λ n. n == running) (nibbles_behind 0 digits) false

-- the event at the end of a packet
abbrev pub ended_packet : Framing → List ℕ → Event
ended_packet f digits =
    if nat_le (length f.body) packet_limit then Packet (is_checked f.running digits)
    else TooLong (is_checked f.running digits)

-- outside a packet `$` begins one, and `-` asks for the last answer again
abbrev pub outside_step : Framing → ℕ → Framing × Option Event
outside_step f byte =
    if byte == 36 then (record { place = Inside; body = []; running = 0 }, None)
    else if byte == 45 then (f, Some Again)
    else (f, None)

-- inside, `#` ends the bytes
abbrev pub inside_step : Framing → ℕ → Framing × Option Event
inside_step f byte =
    if byte == 35 then (record f { place = BeforeSum }, None)
    else (
      record f {
        body = with_body_byte f.body byte;
        running = (f.running + byte) % 256;
      },
      None,
    )

-- one byte more
abbrev pub framing_step_at : Place → Framing → ℕ → Framing × Option Event
framing_step_at Outside f byte = outside_step f byte
framing_step_at Inside f byte = inside_step f byte
framing_step_at BeforeSum f byte = (record f { place = WithinSum byte }, None)
framing_step_at (WithinSum digit) f byte =
    (record f { place = Outside }, Some (ended_packet f (digit ∷ byte ∷ [])))

abbrev pub framing_step : Framing → ℕ → Framing × Option Event
framing_step f byte = framing_step_at f.place f byte

-- ---- over many bytes

-- an event, with the bytes of its packet
abbrev pub told_event : Option Event → List ℕ → List (Event × List ℕ)
told_event None body = []
told_event (Some event) body = (event, body) ∷ []

-- where the reading stands behind the bytes
abbrev pub framing_behind : Framing → List ℕ → Framing
framing_behind f [] = f
framing_behind f (byte ∷ bytes) = framing_behind (framing_step f byte).0 bytes

-- the events of the bytes
abbrev pub events_from : Framing → List ℕ → List (Event × List ℕ)
events_from f [] = []
events_from f (byte ∷ bytes) =
    told_event (framing_step f byte).1 (framing_step f byte).0.body
    ++ events_from (framing_step f byte).0 bytes

-- ---- a whole packet

-- outside, whatever was read before
abbrev pub outside_with : List ℕ → ℕ → Framing
outside_with body running = record { place = Outside; body = body; running = running }

-- what is kept of the bytes of a packet, behind what is kept
abbrev pub kept_bytes : (kept body : List ℕ) → List ℕ
kept_bytes kept [] = kept
kept_bytes kept (byte ∷ bytes) = kept_bytes (with_body_byte kept byte) bytes

-- a packet with these two digits, and what follows it
abbrev pub packet_then : List ℕ → (first second : ℕ) → List ℕ → List ℕ
packet_then body first second rest = 36 ∷ body ++ 35 ∷ first ∷ second ∷ rest
