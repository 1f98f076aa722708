-- What is kept of a connection, and the bytes of texts. This project's own words.
use Rattle.std.specs.Prelude.{ℕ, Bool, List, map, flat_map}
use Rattle.std.specs.Global.{Vec}
use Rattle.debug_session.specs.Connections.{Connection}
use Rattle.debug_session.specs.Sessions.{Session}

-- whether packets are acknowledged, and the packet that was framed last, none at first
pub record Wire : Type 0 where
  pub is_acknowledging : Bool
  pub last : List ℕ

-- with a session
abbrev pub connection_of : Wire → Session → Connection
connection_of kept s =
    record { session = s; is_acknowledging = kept.is_acknowledging; last = kept.last }

-- the bytes of each
abbrev pub texts_of : List (Vec ℕ) → List (List ℕ)
texts_of vectors = map (λ v. v.items) vectors

-- the bytes of all, one text after another
abbrev pub all_of : List (List ℕ) → List ℕ
all_of texts = flat_map (λ text. text) texts
