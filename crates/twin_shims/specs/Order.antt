-- What was pushed is what was taken and then what the queue holds, which fits. One pass at most may
-- push, and it has the list of what was pushed; the same for taking. This project's own rule.
use Rattle.std.specs.Prelude.{◌≡◌, ℕ, Bool, true, List, [], ◌∷◌, ◌++◌}
use mathlib.Core.Option.{some}
use lib.ListN.{get_elem?}
use Rattle.twin_shims.specs.declared.line.Hand.{Hand}
use Rattle.twin_shims.specs.declared.note.Note.{Note}
use Rattle.twin_shims.specs.Notes.{IsWithinMax, AreWithinMax}

abbrev pub hand : (pushes pops : Bool) → (pushed popped : List Note) → Hand
hand pushes pops pushed popped =
    record { pushes = pushes; pops = pops; pushed = pushed; popped = popped }

abbrev pub Knows : (writer reader : ℕ) → (pushed popped : List Note) → ℕ → Hand → Type 0
Knows writer reader pushed popped port v =
    (v.pushes ≡ true → (port ≡ writer) × (v.pushed ≡ pushed))
    × (v.pops ≡ true → (port ≡ reader) × (v.popped ≡ popped))

abbrev pub AreTakenInOrder : List Note → List Hand → Type 0
AreTakenInOrder items views = (writer reader : ℕ) × (pushed popped : List Note)
    × (pushed ≡ popped ++ items)
    × ((port : ℕ) (v : Hand) → get_elem? views port ≡ some v
    → Knows writer reader pushed popped port v)
    × AreWithinMax items

-- after this note was pushed
abbrev pub HasPushed : (old : Hand) → Note → (new : Hand) → Type 0
HasPushed v note w = w ≡ hand v.pushes v.pops (v.pushed ++ note ∷ []) v.popped

-- after this note was popped
abbrev pub HasPopped : (old : Hand) → Note → (new : Hand) → Type 0
HasPopped v note w = (w ≡ hand v.pushes v.pops v.pushed (v.popped ++ note ∷ [])) × IsWithinMax note
