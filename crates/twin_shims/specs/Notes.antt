-- What goes from a leader to a follower. This project's own rule.
use Rattle.std.specs.Prelude.{◌≡◌, ◌≤◌, Bool, true, false, List, [], ◌∷◌, ◌++◌, map, length, ⊤}
use Rattle.std.specs.List.{AllByRecursion}
use Rattle.atomic_table.specs.Seated.{TableId}
use Rattle.dos_io.specs.declared.exchange.Exchange.{Exchange}
use Rattle.dos_io.specs.declared.exchange.Exchange.TheVariants.{Signals, Input, Clock, End}
use Rattle.twin_shims.specs.declared.note.Note.{Note}
use Rattle.twin_shims.specs.declared.note.Note.TheVariants.{Told, Stopped}

-- the exchanges among these notes
abbrev pub exchanges_in : List Note → List Exchange
exchanges_in [] = []
exchanges_in (Told e ∷ notes) = e ∷ exchanges_in notes
exchanges_in (Stopped ∷ notes) = exchanges_in notes

-- a note for each of these exchanges
abbrev pub as_notes : List Exchange → List Note
as_notes = map Told

-- no note comes behind it: it is the end, or says that there will be none
abbrev pub closes : Note → Bool
closes (Told (Signals round list)) = false
closes (Told (Input round tid max bytes)) = false
closes (Told (Clock round tid n)) = false
closes (Told (End ending rounds)) = true
closes Stopped = true

-- An input has no more bytes than were asked for.
abbrev pub IsWithinMax : Note → Type 0
IsWithinMax (Told (Signals round list)) = ⊤
IsWithinMax (Told (Input round tid max bytes)) = length bytes ≤ max
IsWithinMax (Told (Clock round tid n)) = ⊤
IsWithinMax (Told (End ending rounds)) = ⊤
IsWithinMax Stopped = ⊤

abbrev pub AreWithinMax : List Note → Type 0
AreWithinMax = AllByRecursion IsWithinMax

-- more notes may come: none of these closes
abbrev pub IsOpen : List Note → Type 0
IsOpen = AllByRecursion (λ note. closes note ≡ false)

-- no more notes come: the last one closes, and none before it does
pub record IsClosed (notes : List Note) : Type 0 where
  pub before : List Note
  pub last : Note
  pub is : notes ≡ before ++ last ∷ []
  pub running : IsOpen before
  pub closing : closes last ≡ true

-- the one or the other
abbrev pub IsLine : (closed : Bool) → List Note → Type 0
IsLine true notes = IsClosed notes
IsLine false notes = IsOpen notes

-- which line it is, and the notes that went over it
pub record LineState : Type 0 where
  pub line : TableId
  pub notes : List Note
