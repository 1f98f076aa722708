-- A session as it goes over a connection, byte by byte. GDB remote protocol, gdb's manual, appendix
-- E, section "Packet Acknowledgment".
use Rattle.std.specs.Prelude.{ℕ, Bool, true, false, not, ◌&&◌, List, [], ◌∷◌, ◌++◌, map, codes}
use Rattle.gdb_packets.specs.Duties.{duty_of}
use Rattle.gdb_packets.specs.Framing.{frame, framing_begun, events_from}
use Rattle.gdb_packets.specs.Packets.{packet_from}
use Rattle.gdb_packets.specs.declared.duties.Duty.{Duty}
use Rattle.gdb_packets.specs.declared.duties.Duty.TheVariants as duty
use Rattle.gdb_packets.specs.declared.framing.Event.{Event}
use Rattle.gdb_packets.specs.declared.openings.Plain.TheVariants.{NoAcknowledgement}
use Rattle.gdb_packets.specs.declared.packets.Packet.{Packet}
use Rattle.gdb_packets.specs.declared.packets.Packet.TheVariants.{Alone}
use Rattle.debug_session.specs.Stops.{console_text}
use Rattle.debug_session.specs.Sessions.{Session}
use Rattle.debug_session.specs.Halts.{some_bytes}
use Rattle.debug_session.specs.Resuming.{Reply, packet, console, Answered, replies_one}
use Rattle.debug_session.specs.Answers.{answer_to}

-- The session; whether packets are acknowledged; and the packet that was framed last, none at
-- first.
pub record Connection : Type 0 where
  pub session : Session
  pub is_acknowledging : Bool
  pub last : List ℕ

abbrev pub opening_connection : Session → Connection
opening_connection s = record { session = s; is_acknowledging = true; last = [] }

-- ---- what is sent

-- what stands between `$` and `#`
abbrev pub reply_text : Reply → List ℕ
reply_text (packet text) = text
reply_text (console bytes) = console_text bytes

abbrev pub framed_replies : List Reply → List (List ℕ)
framed_replies replies = map (λ reply. frame (reply_text reply)) replies

-- the last of these, or else this one
abbrev pub last_or : List ℕ → List (List ℕ) → List ℕ
last_or other [] = other
last_or other (text ∷ texts) = last_or text texts

-- `+`, where a packet is acknowledged
abbrev pub acknowledgement : Bool → List (List ℕ)
acknowledgement true = codes "+" ∷ []
acknowledgement false = []

-- a connection and what it puts
abbrev pub Spoken : Type 0
Spoken = Connection × List (List ℕ)

-- behind an answer, with packets acknowledged from now on or not
abbrev pub speaks : Connection → (was_acknowledged is_acknowledging : Bool) → Answered → Spoken
speaks c was_acknowledged is_acknowledging said = (
  record {
    session = said.0;
    is_acknowledging = is_acknowledging;
    last = last_or c.last (framed_replies said.1);
  },
  acknowledgement was_acknowledged ++ framed_replies said.1,
)

-- ---- what is heard

-- This packet asks that none is acknowledged behind it.
abbrev pub ends_acknowledging : Packet → Bool
ends_acknowledging (Alone NoAcknowledgement) = true
ends_acknowledging _ = false

abbrev pub answers_packet : Connection → (was_acknowledged : Bool) → List ℕ → Spoken
answers_packet c was_acknowledged text =
    speaks c was_acknowledged
    (c.is_acknowledging && not (ends_acknowledging (packet_from text)))
    (answer_to c.session text)

-- what an event asks, of a packet with this text
abbrev pub does : Connection → Duty → (text : List ℕ) → Spoken
does c duty.Nothing text = (c, [])
does c duty.SendAgain text = (c, some_bytes c.last)
does c duty.Refuse text = (c, codes "-" ∷ [])
does c (duty.Answer was_acknowledged) text = answers_packet c was_acknowledged text
does c (duty.AnswerEmpty was_acknowledged) text =
    speaks c was_acknowledged c.is_acknowledging (replies_one c.session [])

abbrev pub hears : Connection → Event × List ℕ → Spoken
hears c event = does c (duty_of c.is_acknowledging event.0) event.1

-- one event after another
abbrev pub puts_by : Connection → List (Event × List ℕ) → List (List ℕ)
puts_by c [] = []
puts_by c (event ∷ events) =
    let said : Spoken = hears c event in said.1 ++ puts_by said.0 events

-- What is put where these bytes are read, in whatever pieces: each acknowledgement and each packet
-- by itself.
abbrev pub session_puts : Session → (input : List ℕ) → List (List ℕ)
session_puts s input = puts_by (opening_connection s) (events_from framing_begun input)
