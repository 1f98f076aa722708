-- What the memory of a thread that runs shows. This project's own rules.
use Rattle.std.specs.Prelude.{ℕ, ◌≡◌, Bool, true, false, List, Option, Result, Ok}
use Rattle.std.specs.Borrow.{GName}
use Rattle.dos_world.specs.declared.Reason.{Reason}
use Rattle.flat_machine.specs.Over.{MemoryAnswers}
use Rattle.page_store.specs.declared.compared.Slot.{Slot}
use Rattle.quantum_run.specs.Answering.{Places, Still, run_answers}
use Rattle.quantum_run.specs.Knowing.{AreRight}

-- What stands still is as it was, and so is what the pages keep; and this is what the pages are.
pub record ShowsBy {F M : Type 0} (now : Still) (fixed_now : F) (state : M) (fixed : Still × F)
    (m : M) : Type 0 where
  pub still : now ≡ fixed.0
  pub fixed_is : fixed_now ≡ fixed.1
  pub state_is : state ≡ m

-- The same, and each block of a page of code that has been compared is right, of which these bytes
-- are known.
pub record ShowsKnown {F M : Type 0} (now : Still) (fixed_now : F) (state : M)
    (pages : List (Option (List ℕ))) (shown : List Slot) (compared : List Bool)
    (fixed : (Still × F) × List (Option (List ℕ))) (m : M) : Type 0 where
  pub shows : ShowsBy now fixed_now state fixed.0 m
  pub right : AreRight shown compared pages fixed.1

-- the places by what stays, beside the name of the borrow of what was compared
abbrev pub beside_name : {F M : Type 0} → (F → Places M) → F × GName → Places M
beside_name places fixed = places fixed.0

-- what is answered at these places, by what stands still and what the pages keep
abbrev pub answers_of : {F M K : Type 0} → (F → Places M) → (Still × F) × K
    → MemoryAnswers M
answers_of places fixed = run_answers fixed.0.0 (places fixed.0.1)

-- What came of a store that is done or not: it is done, and what it leaves is shown; or it isn't,
-- and what was shown is.
abbrev pub StoresOrNot : {M : Type 0} → Bool → Result M Reason → M → (M → Type 0) → Type 0
StoresOrNot {M} true answer m shows = (after : M) × (answer ≡ Ok after) × shows after
StoresOrNot {M} false answer m shows = shows m
