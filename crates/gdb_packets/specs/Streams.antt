-- Laws of the framing, in whole streams of bytes.
use Rattle.std.specs.Prelude.{ℕ, ◌≡◌, ◌≤◌, ◌<◌, ◌==◌, List, [], ◌∷◌, ◌++◌, length, true, false}
use Rattle.std.specs.List.{AllByRecursion}
use Rattle.gdb_packets.specs.Framing.{Framing, packet_limit, checksum, frame, is_checked}
use Rattle.gdb_packets.specs.Framing.{framing_behind, events_from, outside_with, kept_bytes}
use Rattle.gdb_packets.specs.Framing.{packet_then}
use Rattle.gdb_packets.specs.ReadBack.{AreBodyBytes}
use Rattle.gdb_packets.specs.declared.framing.Event.TheVariants.{Packet, TooLong}

-- A packet within the limit is told with its bytes, and whether the two digits are its sum.
abbrev pub PacketsAreTold : Type 0
PacketsAreTold = (body rest before : List ℕ) (running first second : ℕ) → AreBodyBytes body
    → length body ≤ packet_limit
    → events_from (outside_with before running) (packet_then body first second rest)
    ≡ (Packet (is_checked (checksum body) (first ∷ second ∷ [])), body)
    ∷ events_from (outside_with body (checksum body)) rest

-- A longer one is told as that.
abbrev pub LongPacketsAreTold : Type 0
LongPacketsAreTold = (body rest before : List ℕ) (running first second : ℕ) → AreBodyBytes body
    → packet_limit < length body
    → events_from (outside_with before running) (packet_then body first second rest)
    ≡ (TooLong (is_checked (checksum body) (first ∷ second ∷ [])), kept_bytes [] body)
    ∷ events_from (outside_with (kept_bytes [] body) (checksum body)) rest

-- A packet as it is sent is read back.
abbrev pub FramesAreReadBack : Type 0
FramesAreReadBack = (body rest before : List ℕ) (running : ℕ) → AreBodyBytes body
    → length body ≤ packet_limit
    → events_from (outside_with before running) (frame body ++ rest)
    ≡ (Packet true, body) ∷ events_from (outside_with body (checksum body)) rest

-- neither the begin of a packet nor an asking for the last one
abbrev pub AreBetween : List ℕ → Type 0
AreBetween bytes =
    AllByRecursion (λ b. ((b == 36) ≡ false) × ((b == 45) ≡ false)) bytes

-- Bytes between packets have no effect.
abbrev pub BytesBetweenAreNone : Type 0
BytesBetweenAreNone = (bytes rest before : List ℕ) (running : ℕ) → AreBetween bytes
    → events_from (outside_with before running) (bytes ++ rest)
    ≡ events_from (outside_with before running) rest

-- A packet that doesn't end is no event.
abbrev pub UnendedPacketsAreNone : Type 0
UnendedPacketsAreNone = (body before : List ℕ) (running : ℕ) → AreBodyBytes body
    → events_from (outside_with before running) (36 ∷ body) ≡ []

-- It doesn't matter into which pieces the bytes are cut.
abbrev pub PiecesAreOne : Type 0
PiecesAreOne = (f : Framing) (xs ys : List ℕ)
    → events_from f (xs ++ ys) ≡ events_from f xs ++ events_from (framing_behind f xs) ys
