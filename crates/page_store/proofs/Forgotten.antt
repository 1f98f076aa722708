-- Where no slot has found a page, or no block is marked, nothing is compared.
use Rattle.std.proofs.Common.{◌≡◌, ℕ, zero, suc, ◌/◌, ◌%◌, refl, sym, ap, ◌∙◌, arith}
use Rattle.std.proofs.Common.{Bool, true, false, List, Option, Some, replicate, slice_get}
use Rattle.std.specs.Prelude.{slice_index_or}
use Rattle.page_store.specs.declared.compared.Slot.{Slot}
use Rattle.page_store.specs.Compared.{AreFewer, AreRight, block_place, empty_slot, no_start}
use Rattle.page_store.specs.Compared.{slot_of}

-- each of the slots has found nothing, and so has one that isn't there
each-empty : (n k : ℕ) → slice_index_or (replicate n empty_slot) k empty_slot ≡ empty_slot
each-empty zero k = refl
each-empty (suc n) zero = refl
each-empty (suc n) (suc k) = each-empty n k

pub right-forgotten : (slots : List Slot) (blocks : List Bool) → slots ≡ replicate 64 empty_slot
    → (pages known : List (Option (List ℕ))) → AreRight slots blocks pages known
right-forgotten slots blocks none pages known address fits is =
    let there : slot_of slots address ≡ empty_slot =
    ap (λ (s : List Slot). slot_of s address) none ∙ each-empty 64 (address / 4096 % 64) in
    let start : (slot_of slots address).start ≡ no_start = ap (λ (s : Slot). s.start) there in
    let found = is.found in
    absurd (omega (arith, start, found, fits))

pub right-unmarked : (slots : List Slot) (old blocks : List Bool) → old ≡ replicate 1024 false
    → AreFewer old blocks → (pages known : List (Option (List ℕ)))
    → AreRight slots blocks pages known
right-unmarked slots old blocks none fewer pages known address fits is =
    absurd (never 1024 (block_place address)
    (ap (λ (b : List Bool). slice_get b (block_place address)) (sym none)
    ∙ fewer (block_place address) is.is))
  where
    never : (n i : ℕ) → slice_get (replicate n false) i ≡ Some true → ⊥
    never zero i h = cc
    never (suc n) zero h = cc
    never (suc n) (suc i) h = never n i h
