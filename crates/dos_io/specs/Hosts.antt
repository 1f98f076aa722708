-- What a host tells: the input and the readings that are still to come. This project's own rule.
use Rattle.std.specs.Prelude.{ℕ, List, [], ◌∷◌, length, take, drop, Option, Some, None, nat_le}
use Rattle.std.specs.Prelude.{if◌then◌else◌, ⊤}

-- Input comes in pieces, as a terminal or a pipe gives it.
pub record Told : Type 0 where
  pub pieces : List (List ℕ)
  pub readings : List ℕ

-- No piece is empty, so an empty answer means that the input is at its end.
abbrev pub AreFilled : List (List ℕ) → Type 0
AreFilled [] = ⊤
AreFilled ([] ∷ pieces) = ⊥
AreFilled ((b ∷ bytes) ∷ pieces) = AreFilled pieces

-- The answer to a question for at most max bytes: the front of the first piece. Beside it the
-- pieces that are left, where an emptied one goes.
abbrev pub taken : ℕ → List (List ℕ) → List ℕ × List (List ℕ)
taken max [] = ([], [])
taken max (piece ∷ pieces) = if nat_le (length piece) max then (piece, pieces) else
    (take max piece, drop max piece ∷ pieces)

-- what is told after an input of at most max bytes; a host that tells nothing goes on so
abbrev pub after_input : ℕ → Option Told → Option Told
after_input max None = None
after_input max (Some t) = Some (record t { pieces = (taken max t.pieces).1 })

-- what was told before this reading left the front
abbrev pub before_reading : ℕ → Option Told → Option Told
before_reading n None = None
before_reading n (Some t) = Some (record t { readings = n ∷ t.readings })
