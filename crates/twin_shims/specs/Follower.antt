-- What a follower keeps, and what it makes of it. This project's own rule.
use Rattle.std.specs.Prelude.{◌≡◌, ◌≢◌, ◌++◌, ◌+◌, ◌-◌, ◌^◌, min, ℕ, Bool, List, [], ◌∷◌, length}
use Rattle.std.specs.Prelude.{Option}
use Rattle.std.specs.Prelude.{Some, None, ⊤, IfSome}
use Rattle.atomic_table.specs.Seated.{TableId}
use Rattle.dos_world.specs.declared.Question.{Question}
use Rattle.dos_io.specs.declared.exchange.Exchange.{Exchange}
use Rattle.dos_io.specs.declared.shim.ShimStop.{ShimStop}
use Rattle.dos_io.specs.declared.shim.ShimStop.TheVariants.{LogFull, HostFault, Memory, Misfit}
use Rattle.dos_io.specs.Exchanges.{question_of}
use Rattle.dos_io.specs.Outside.{counted_to_limit}
use Rattle.dos_io.specs.Shims.{ShimState}
use Rattle.twin_shims.specs.declared.note.Note.{Note}
use Rattle.twin_shims.specs.declared.note.Note.TheVariants.{Told, Stopped}
use Rattle.twin_shims.specs.Notes.{exchanges_in, as_notes, IsWithinMax, IsLine}

-- all but the last
abbrev pub front : List Note → List Note
front [] = []
front (note ∷ []) = []
front (note ∷ other ∷ notes) = note ∷ front (other ∷ notes)

-- which line it takes from, the notes that it took, the last of these where it isn't answered by
-- it, how many it answered by (the count stands still at 2^32 - 1), and the stops
pub record ReaderState : Type 0 where
  pub line : TableId
  pub taken : List Note
  pub next : Option Note
  pub answered : ℕ
  pub stops : ℕ
  pub last : Option ShimStop
  pub asked : Option Question

-- the notes by which it answered: all that it took, or all but the last
abbrev pub used : List Note → Option Note → List Note
used taken None = taken
used taken (Some note) = front taken

-- what it told: the exchanges of those notes
abbrev pub reader_told : ReaderState → List Exchange
reader_told r = exchanges_in (used r.taken r.next)

-- as of every shim
abbrev pub follower_state : ReaderState → ShimState
follower_state r = record { told = reader_told r; stops = r.stops; last = r.last; asked = r.asked }

-- before the first question
abbrev pub new_reader : TableId → ReaderState
new_reader line = record {
  line = line;
  taken = [];
  next = None;
  answered = 0;
  stops = 0;
  last = None;
  asked = None;
}

-- a 32-bit count of so many
abbrev pub counted_to : ℕ → ℕ
counted_to n = min n (2 ^ 32 - 1)

-- The next note is of an exchange with another question.
pub record IsNextMisfit (r : ReaderState) (asked : Question) (stop : ShimStop) : Type 0 where
  pub kept : Exchange
  pub next : r.next ≡ Some (Told kept)
  pub says : stop ≡ Misfit (record {
    entry = r.answered;
    kept = question_of kept;
    asked = asked;
  })
  pub differ : question_of kept ≢ asked

-- It stops so at this question by its next note: by a misfit where that is of another question, and
-- by a fault of the host exactly where the leader has stopped.
abbrev pub StopsReader : ReaderState → Question → ShimStop → Type 0
StopsReader r q HostFault = r.next ≡ Some Stopped
StopsReader r q (Misfit misfit) = IsNextMisfit r q (Misfit misfit)
StopsReader r q LogFull = ⊥
StopsReader r q Memory = ⊥

abbrev pub IsFollowerStop : ShimStop → Type 0
IsFollowerStop HostFault = ⊤
IsFollowerStop (Misfit misfit) = ⊤
IsFollowerStop LogFull = ⊥
IsFollowerStop Memory = ⊥

-- what a follower keeps in its type
pub record IsReader (closed : Bool) (r : ReaderState) : Type 0 where
  pub line : IsLine closed r.taken
  pub told_only : used r.taken r.next ≡ as_notes (reader_told r)
  pub next_is : IfSome r.next (λ note. r.taken ≡ front r.taken ++ note ∷ [])
  pub fits : IfSome r.next IsWithinMax
  pub count : r.answered ≡ counted_to (length (reader_told r))
  pub stop : IfSome r.asked (λ q. IfSome r.last (StopsReader r q))
  pub never : IfSome r.last IsFollowerStop

-- From s to t: the same line, and the notes taken before are a prefix of those taken after.
pub record FollowsReader (s t : ReaderState) : Type 0 where
  pub line_same : t.line ≡ s.line
  pub more : List Note
  pub taken_is : t.taken ≡ s.taken ++ more

-- after it took a note, where none was left
abbrev pub reader_took : ReaderState → Note → ReaderState
reader_took r note = record r { taken = r.taken ++ note ∷ []; next = Some note }

-- after it answered by the next note
abbrev pub reader_answered : ReaderState → ReaderState
reader_answered r = record r { next = None; answered = counted_to (r.answered + 1); asked = None }

-- after a stop
abbrev pub reader_stopped : ReaderState → Question → ShimStop → ReaderState
reader_stopped r q stop =
    record r { stops = counted_to_limit r.stops; last = Some stop; asked = Some q }

-- the question of a note, if it is of an exchange
abbrev pub question_of_note : Option Note → Option Question
question_of_note None = None
question_of_note (Some (Told exchange)) = Some (question_of exchange)
question_of_note (Some Stopped) = None
