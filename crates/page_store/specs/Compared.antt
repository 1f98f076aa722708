-- Which pages of code were compared with what is known of them, by blocks of 256 bytes, and when
-- that is right. This project's own rules.
use Rattle.std.specs.Prelude.{ℕ, ◌≡◌, ◌≢◌, All, ◌+◌, ◌*◌, ◌<◌, ◌≤◌, ◌/◌, ◌%◌, ◌^◌, Bool, true, List}
use Rattle.std.specs.Prelude.{Option, Some, slice_get, slice_index, slice_index_or}
use Rattle.page_store.specs.Store.{whole}
use Rattle.page_store.specs.declared.compared.Slot.{Slot}

-- the first address of an address's page
abbrev pub page_start : ℕ → ℕ
page_start address = address / 4096 * 4096

-- the start of a slot that has found nothing: no page begins there
abbrev pub no_start : ℕ
no_start = 0xFFFFFFFF

-- a slot that has found nothing
abbrev pub empty_slot : Slot
empty_slot = record { start = no_start; frame = 0xFFFFFFFF }

-- the slot of an address's page, of 64
abbrev pub slot_of : List Slot → ℕ → Slot
slot_of slots address = slice_index_or slots (address / 4096 % 64) empty_slot

-- the place of an address's page among the pages of code that are known, of 256
abbrev pub code_place : ℕ → ℕ
code_place address = address / 4096 % 256

-- where it stands whether the block of an address has been compared: 16 blocks for each slot
abbrev pub block_place : ℕ → ℕ
block_place address = address / 4096 % 64 * 16 + address % 4096 / 256

-- A slot that has found a page is where the low byte of its frame says.
abbrev pub SlotsArePlaced : List Slot → (places : List ℕ) → Type 0
SlotsArePlaced slots places = (at : ℕ) → (slice_index_or slots at empty_slot).start < no_start
    → slice_index_or places ((slice_index_or slots at empty_slot).frame % 256) 0 ≡ at

-- No slot has this frame.
abbrev pub IsNoCode : List Slot → ℕ → Type 0
IsNoCode slots frame = All (λ slot. slot.start < no_start → slot.frame ≢ frame) slots

-- No slot but this one has a frame with the low byte of this one.
abbrev pub HasAlone : List Slot → (place frame : ℕ) → Type 0
HasAlone slots place frame = (at : ℕ) → (slice_index_or slots at empty_slot).start < no_start
    → (slice_index_or slots at empty_slot).frame % 256 ≡ frame % 256 → at ≡ place

-- No block of this slot has been compared.
abbrev pub IsUncompared : List Bool → (place : ℕ) → Type 0
IsUncompared compared place = (at : ℕ) → at / 16 ≡ place → slice_get compared at ≢ Some true

-- No block has been compared that hadn't been.
abbrev pub AreFewer : (old new : List Bool) → Type 0
AreFewer old new = (at : ℕ) → slice_get new at ≡ Some true → slice_get old at ≡ Some true

-- Two pages have the same bytes in the block of an offset, and in the halfword behind it.
abbrev pub AreSameAround : (offset : ℕ) → (a b : List ℕ) → Type 0
AreSameAround offset a b = (i : ℕ) → offset / 256 * 256 ≤ i → i < offset / 256 * 256 + 258
    → i < 4096 → slice_index a i ≡ slice_index b i

-- The page of an address is known, and around it has the bytes of the frame that its slot has.
pub record IsRightAt (slots : List Slot) (pages known : List (Option (List ℕ))) (address : ℕ)
    : Type 0 where
  pub own : List ℕ
  pub here : slice_get known (code_place address) ≡ Some (Some own)
  pub page : List ℕ
  pub there : slice_get pages (slot_of slots address).frame ≡ Some (Some page)
  pub same : AreSameAround (address % 4096) own (whole page)

-- The page of this address was found, and the block there was compared.
pub record IsCompared (slots : List Slot) (blocks : List Bool) (address : ℕ) : Type 0 where
  pub found : (slot_of slots address).start ≡ page_start address
  pub is : slice_get blocks (block_place address) ≡ Some true

-- Each block that was compared is right: `known` has the bytes of the pages that are known, by
-- their places.
abbrev pub AreRight : List Slot → List Bool → (pages known : List (Option (List ℕ))) → Type 0
AreRight slots blocks pages known = (address : ℕ) → address < 2 ^ 32
    → IsCompared slots blocks address → IsRightAt slots pages known address
