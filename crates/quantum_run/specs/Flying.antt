-- Instructions by the lines that are known of a page of code. This project's own rules.
use Rattle.std.specs.Prelude.{ℕ, ◌≡◌, ◌<◌, ◌%◌, ◌^◌, Bool, List, Option, Some, None, slice_get}
use Rattle.dos_world.specs.World.{Registers, with_pc}
use Rattle.dos_world.specs.declared.Reason.{Reason}
use Rattle.dos_world.specs.declared.Reason.TheVariants.{Service}
use Rattle.rv_exec.specs.declared.Went.{Went}
use Rattle.rv_exec.specs.declared.Went.TheVariants.{Step, Stop}
use Rattle.flat_machine.specs.Effect.{Effect}
use Rattle.flat_machine.specs.Over.{MemoryAnswers}
use Rattle.rv_exec.specs.Arrivals.{PerformsBy}
use Rattle.rv_exec.specs.declared.next.Next.{Next}
use Rattle.rv_exec.specs.declared.next.Next.TheVariants.{On, Short, To, Not}
use Rattle.code_pages.specs.Lines.{AreKnownPages, Known}
use Rattle.code_pages.specs.declared.line.Line.{Line}
use Rattle.page_store.specs.declared.compared.Slot.{Slot}
use Rattle.quantum_run.specs.Finding.{page_start}
use Rattle.quantum_run.specs.Knowing.{IsLineFor}

-- What came of an instruction of this size at pc, on a memory that shows old before and new
-- afterwards: it is done as the effect says, or it isn't and nothing is changed.
abbrev pub DoneOrNot : {Fixed M : Type 0} → (Fixed → MemoryAnswers M)
    → (old new : Fixed → M → Type 0) → (size pc : ℕ) → (r after : Registers) → Next
    → (Registers → Effect) → Type 0
DoneOrNot answers old new size pc r after On e =
    PerformsBy answers old new size pc r after On Service e
DoneOrNot answers old new size pc r after Short e =
    PerformsBy answers old new size pc r after Short Service e
DoneOrNot answers old new size pc r after (To target) e =
    PerformsBy answers old new size pc r after (To target) Service e
DoneOrNot answers old new size pc r after Not e =
    (with_pc after pc ≡ with_pc r pc) × ((f : _) (m : _) → old f m → new f m)

-- A line stands at this place.
pub record HasLine (lines : List Line) (at : ℕ) : Type 0 where
  pub line : Line
  pub is : slice_get lines at ≡ Some line

-- A line stands at this place, and fewer than so many follow it until the end of the run.
pub record IsRunWithin (lines : List Line) (at budget : ℕ) : Type 0 where
  pub line : Line
  pub is : slice_get lines at ≡ Some line
  pub run : line.run < budget

-- The line at this place is that of the code at an address, of the page that begins at base; of the
-- pages that are known these are the lines.
pub record IsLineOf (shown : List Slot) (compared : List Bool) (known : Known) (lines : List Line)
    (base address at : ℕ) : Type 0 where
  pub lines_are : known.lines ≡ lines
  pub pages : AreKnownPages known
  pub line : IsLineFor shown compared known address at
  pub page : page_start address ≡ base
  pub even : address % 2 ≡ 0
  pub small : address < 2 ^ 32

-- whether an instruction was done, by where it leads, and why not
abbrev pub went_on : Option ℕ → Reason → Went
went_on None why = Stop why
went_on (Some pc) why = Step
