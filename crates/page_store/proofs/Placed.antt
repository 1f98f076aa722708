-- In which slot a frame is, by the low byte of its number; and blocks that are forgotten.
use Rattle.std.proofs.Common.{ℕ, zero, suc, ◌/◌, ◌<◌, ◌≡◌, ◌≢◌, refl, arith, Bool, true}
use Rattle.std.proofs.Common.{List, [], ◌∷◌, set, replicate, Some, slice_get}
use Rattle.std.specs.Prelude.{slice_index_or}
use Rattle.page_store.specs.Compared.{SlotsArePlaced, empty_slot, no_start}
use Rattle.page_store.specs.declared.compared.Slot.{Slot}

-- where no slot has found anything
pub placed-none : (n : ℕ) (places : List ℕ) → SlotsArePlaced (replicate n empty_slot) places
placed-none n places at begins = absurd (omega (arith, begins, none n at))
  where
    none : (n at : ℕ) → (slice_index_or (replicate n empty_slot) at empty_slot).start ≡ no_start
    none zero at = refl
    none (suc n) zero = refl
    none (suc n) (suc at) = none n at

-- a slot that is emptied
pub emptied : (slots : List Slot) (place at : ℕ)
    → (slice_index_or (set slots place empty_slot) at empty_slot).start < no_start
    → (at ≢ place) × (slice_index_or (set slots place empty_slot) at empty_slot
    ≡ slice_index_or slots at empty_slot)
emptied [] place at begins = absurd (omega (arith, begins))
emptied (slot ∷ slots) zero zero begins = absurd (omega (arith, begins))
emptied (slot ∷ slots) zero (suc at) begins = (λ e. omega (arith, e), refl)
emptied (slot ∷ slots) (suc place) zero begins = (λ e. omega (arith, e), refl)
emptied (slot ∷ slots) (suc place) (suc at) begins =
    let more = emptied slots place at begins in
    (λ e. more.0 (omega (arith, e)), more.1)

-- No block of a slot has been compared, among those before a place.
abbrev pub IsUncomparedBelow : ℕ → List Bool → (place : ℕ) → Type 0
IsUncomparedBelow n compared place = (at : ℕ) → at < n → at / 16 ≡ place
    → slice_get compared at ≢ Some true
