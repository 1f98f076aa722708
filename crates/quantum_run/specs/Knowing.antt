-- Which pages of code are known, while a thread runs: those that a fetch has found, and of them the
-- blocks of 256 bytes that have been compared, as page_store says it. This project's own rules.
use Rattle.std.specs.Prelude.{ℕ, ◌≡◌, ◌⊎◌, ◌<◌, ◌%◌, Bool, true, List}
use Rattle.std.specs.Prelude.{All, Option, Some, false, length, slice_get, slice_index_or}
use Rattle.std.specs.Prelude.{slice_set}
use Rattle.code_pages.specs.Lines.{IsStartIn, Known, bytes_of_pages, page_bytes_at, with_block}
use Rattle.page_store.specs.Store.{whole}
pub use Rattle.page_store.specs.Compared.{AreFewer, AreRight, AreSameAround, IsCompared, IsNoCode}
pub use Rattle.page_store.specs.Compared.{IsRightAt, IsUncompared}
pub use Rattle.page_store.specs.Compared.{block_place, code_place, empty_slot, slot_of}
use Rattle.page_store.specs.Compared.{no_start}
use Rattle.page_store.specs.declared.compared.Slot.{Slot}

-- What was right is still, whichever pages are known.
abbrev pub KeepsRight : List Slot → List Bool → List (Option (List ℕ))
    → List Slot → List Bool → List (Option (List ℕ)) → Type 0
KeepsRight shown compared pages new_shown new_compared new_pages =
    (known : List (Option (List ℕ))) → AreRight shown compared pages known
    → AreRight new_shown new_compared new_pages known

-- Each frame of a slot has its mark set, of 64.
abbrev pub SlotsAreMarked : List Slot → (marks : List Bool) → Type 0
SlotsAreMarked slots marks =
    All (λ slot. slot.start < no_start → slice_index_or marks (slot.frame % 64) false ≡ true) slots

-- No frame of which code was compared is found again for stores without a search.
abbrev pub FetchesAreApart : (slots stored : List Slot) → Type 0
FetchesAreApart slots stored =
    All (λ slot. slot.start < no_start → IsNoCode slots slot.frame) stored

-- The line of the code at an even address, whose block has been compared.
pub record IsLineFor (shown : List Slot) (compared : List Bool) (known : Known) (address at : ℕ)
    : Type 0 where
  pub compared_is : IsCompared shown compared address
  pub start : IsStartIn known (code_place address) (address % 4096) at

-- Of a frame's page this block of 256 bytes, and the halfword behind it, are known at a place.
pub record IsChecked (pages : List (Option (List ℕ))) (frame : ℕ) (old : Known) (place block : ℕ)
    (new : Known) : Type 0 where
  pub page : List ℕ
  pub there : slice_get pages frame ≡ Some (Some page)
  pub inside : place < length old.pages
  pub known : bytes_of_pages new ≡ slice_set (bytes_of_pages old) place
      (Some (with_block (page_bytes_at old place) block (whole page)))

-- What a fetch has found in a part is among what was found, in the same slot.
abbrev pub AreAmong : (slots shown : List Slot) → Type 0
AreAmong slots shown = (at : ℕ) → (slice_index_or shown at empty_slot).start < no_start
    → slice_index_or shown at empty_slot ≡ slice_index_or slots at empty_slot

-- Each slot is the same, or has found nothing any more.
abbrev pub AreHidden : (old new : List Slot) → Type 0
AreHidden old new = (at : ℕ) → (slice_index_or new at empty_slot ≡ slice_index_or old at empty_slot)
    ⊎ (slice_index_or new at empty_slot ≡ empty_slot)
