-- What was put over a connection at events and bytes, and what it is then. This project's own
-- words.
use Rattle.std.specs.Prelude.{ℕ, ◌≡◌, ◌≤◌, List, [], ◌∷◌, length, take, Option}
use Rattle.std.specs.Prelude.{Result, Ok, Err, OnOk, ⊤}
use Rattle.dos_io.specs.Outside.{GrewByFront, Rose, grown}
use Rattle.gdb_packets.specs.Framing.{Framing, events_from, packet_limit}
use Rattle.gdb_packets.specs.declared.framing.Event.{Event}
use Rattle.gdb_packets.specs.declared.framing.Event.TheVariants.{Packet}
use Rattle.debug_session.specs.Connections.{Connection, Spoken, hears, puts_by}
use Rattle.debug_session.specs.Sessions.{Session}
use Rattle.debug_connection.specs.Keeping.{Wire, all_of, connection_of}
use Rattle.debug_connection.specs.declared.stops.HearStop.{HearStop}
use Rattle.debug_connection.specs.declared.stops.HearStop.TheVariants.{SinkFault, Memory}

-- ---- many events

-- a connection behind these events
abbrev pub behind_events : Connection → List (Event × List ℕ) → Connection
behind_events c [] = c
behind_events c (event ∷ events) = behind_events (hears c event).0 events

-- and behind these bytes, where its reading stands so
abbrev pub behind_bytes : Connection → Framing → List ℕ → Connection
behind_bytes c f bytes = behind_events c (events_from f bytes)

-- what these bytes make it put
abbrev pub bytes_put : Connection → Framing → List ℕ → List ℕ
bytes_put c f bytes = all_of (puts_by c (events_from f bytes))

-- both, of one byte
abbrev pub byte_spoken : Connection → Framing → (byte : ℕ) → Spoken
byte_spoken c f byte = (
  behind_bytes c f (byte ∷ []),
  puts_by c (events_from f (byte ∷ [])),
)

-- The text of a packet that is answered is within the limit.
abbrev pub FitsEvent : Event → (text : List ℕ) → Type 0
FitsEvent (Packet is_sound) text = length text ≤ packet_limit
FitsEvent _ text = ⊤

-- ---- what was put

-- What is kept, with a session that is shown, is this connection.
abbrev pub IsConnected : (shows : Session → Type 0) → Wire → Connection → Type 0
IsConnected shows kept c = shows c.session × (connection_of kept c.session ≡ c)

-- These texts were put. Where the output failed, a front of them was; where memory was wanted,
-- nothing.
abbrev pub ArePut : Result ⊤ HearStop → (texts : List (List ℕ))
    → (out out_after : Option (List ℕ)) → Type 0
ArePut (Ok done) texts out out_after = out_after ≡ grown out (all_of texts)
ArePut (Err SinkFault) texts out out_after = GrewByFront out out_after (all_of texts)
ArePut (Err Memory) texts out out_after = out_after ≡ out

-- What is said was put, and the connection is what it says.
abbrev pub HasSpoken : (shows : Session → Type 0) → Wire → Result ⊤ HearStop → (said : Spoken)
    → (out out_after : Option (List ℕ)) → Type 0
HasSpoken shows kept result said out out_after =
    OnOk result (IsConnected shows kept said.0) × ArePut result said.1 out out_after

-- What these bytes ask was put, and the connection is what it is behind them. Where the output
-- failed, a front of that was put; where memory was wanted, exactly what some of the first bytes
-- ask.
abbrev pub HasHeard : (shows : Session → Type 0) → Wire → Result ⊤ HearStop → Connection → Framing
    → (bytes : List ℕ) → (out out_after : Option (List ℕ)) → Type 0
HasHeard shows kept (Ok done) c f bytes out out_after =
    IsConnected shows kept (behind_bytes c f bytes) × (out_after ≡ grown out (bytes_put c f bytes))
HasHeard shows kept (Err SinkFault) c f bytes out out_after =
    GrewByFront out out_after (bytes_put c f bytes)
HasHeard shows kept (Err Memory) c f bytes out out_after =
    (k : ℕ) × (out_after ≡ grown out (bytes_put c f (take k bytes)))

-- The count of an output's faults rises with its fault, and stands else.
abbrev pub FaultsBy : Result ⊤ HearStop → (before now : ℕ) → Type 0
FaultsBy (Err SinkFault) before now = (before ≤ now) × Rose before now
FaultsBy (Err Memory) before now = now ≡ before
FaultsBy (Ok done) before now = now ≡ before
