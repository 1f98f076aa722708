-- Laws of a connection: bytes in pieces. This project's own.
use Rattle.std.specs.Prelude.{ℕ, ◌≡◌, List, ◌++◌}
use Rattle.dos_io.specs.Outside.{IsFront}
use Rattle.gdb_packets.specs.Framing.{Framing, framing_behind}
use Rattle.debug_session.specs.Connections.{Connection, session_puts}
use Rattle.debug_session.specs.Sessions.{Session}
use Rattle.debug_connection.specs.Keeping.{all_of}
use Rattle.debug_connection.specs.Speaking.{behind_bytes, bytes_put}

-- What is put is what the one piece and then the other ask.
abbrev pub PiecesArePutAlike : Type 0
PiecesArePutAlike = (c : Connection) (f : Framing) (xs ys : List ℕ)
    → bytes_put c f (xs ++ ys)
    ≡ bytes_put c f xs ++ bytes_put (behind_bytes c f xs) (framing_behind f xs) ys

-- The connection is what it is behind the one piece and then the other.
abbrev pub PiecesAreHeardAlike : Type 0
PiecesAreHeardAlike = (c : Connection) (f : Framing) (xs ys : List ℕ)
    → behind_bytes c f (xs ++ ys)
    ≡ behind_bytes (behind_bytes c f xs) (framing_behind f xs) ys

-- What the first bytes ask comes first.
abbrev pub FrontsArePut : Type 0
FrontsArePut = (s : Session) (input more : List ℕ)
    → IsFront (all_of (session_puts s input)) (all_of (session_puts s (input ++ more)))
