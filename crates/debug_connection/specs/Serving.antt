-- How a session was served. This project's own words.
use Rattle.std.specs.Prelude.{ℕ, ◌≡◌, List, Option, IfSome, Result, Ok, Err, ⊤}
use Rattle.dos_io.specs.Hosts.{Told}
use Rattle.dos_io.specs.Outside.{GrewByFront, IsFront, grown}
use Rattle.debug_session.specs.Connections.{session_puts}
use Rattle.debug_session.specs.Sessions.{Session}
use Rattle.debug_connection.specs.Keeping.{all_of}
use Rattle.debug_connection.specs.declared.stops.ServeStop.{ServeStop}
use Rattle.debug_connection.specs.declared.stops.ServeStop.TheVariants.{HostFault, SinkFault}
use Rattle.debug_connection.specs.declared.stops.ServeStop.TheVariants.{Memory}

-- Of the bytes that a host gives, these are the first.
abbrev pub AreGiven : (input : List ℕ) → Option Told → Type 0
AreGiven input told = IfSome told (λ t. IsFront input (all_of t.pieces))

-- Of the bytes that a host gives, these are all.
abbrev pub AreAllGiven : (input : List ℕ) → Option Told → Type 0
AreAllGiven input told = IfSome told (λ t. all_of t.pieces ≡ input)

-- At these bytes the output grew by what the session puts; where it failed, by a front of that.
abbrev pub HasPut : Session → (input : List ℕ) → ServeStop → (out out_after : Option (List ℕ))
    → Type 0
HasPut s input SinkFault out out_after =
    GrewByFront out out_after (all_of (session_puts s input))
HasPut s input HostFault out out_after = out_after ≡ grown out (all_of (session_puts s input))
HasPut s input Memory out out_after = out_after ≡ grown out (all_of (session_puts s input))

-- A session was served, to the end of the input or until it stopped so.
abbrev pub HasServed : Session → Result ⊤ ServeStop → Option Told
    → (out out_after : Option (List ℕ)) → Type 0
HasServed s (Ok done) told out out_after = (input : List ℕ) × AreAllGiven input told
    × (out_after ≡ grown out (all_of (session_puts s input)))
HasServed s (Err why) told out out_after = (input : List ℕ) × AreGiven input told
    × HasPut s input why out out_after
