-- Pages of code that were found before, beside those that are found in a part.
use Rattle.std.proofs.Common.{ℕ, zero, suc, ◌<◌, ◌≡◌, ◌≢◌, ◌⊎◌, inl, inr, refl, sym, ap, ◌∙◌}
use Rattle.std.proofs.Common.{List, [], ◌∷◌, set, length, subst, arith, eqb, true, false}
use Rattle.std.proofs.Common.{replicate, ◌%◌, ◌/◌, ◌^◌}
use Rattle.std.specs.Prelude.{slice_index_or}
use Rattle.std.proofs.lemmas.Bool.Decides.{eqb_tells}
use Rattle.std.proofs.lemmas.List.{get_or-set_other, get_or-set_same}
use Rattle.std.proofs.lemmas.List.Elements.{All-from_get_or}
use Rattle.page_store.specs.Compared.{HasAlone}
use Rattle.page_store.specs.declared.compared.Slot.{Slot}
use Rattle.page_store.proofs.Placed.{emptied}
use Rattle.quantum_run.specs.Finding.{no_start, page_start}
use Rattle.quantum_run.specs.Knowing.{AreAmong, AreHidden, IsNoCode, empty_slot, slot_of}

-- a slot has found nothing any more
pub hidden-one : (slots : List Slot) (place : ℕ) → AreHidden slots (set slots place empty_slot)
hidden-one [] place at = inl refl
hidden-one (slot ∷ slots) zero zero = inr refl
hidden-one (slot ∷ slots) zero (suc at) = inl refl
hidden-one (slot ∷ slots) (suc place) zero = inl refl
hidden-one (slot ∷ slots) (suc place) (suc at) = hidden-one slots place at

-- and then another one
pub hidden-two : (slots : List Slot) (one two : ℕ)
    → AreHidden slots (set (set slots one empty_slot) two empty_slot)
hidden-two slots one two at =
    by_slot (hidden-one (set slots one empty_slot) two at) (hidden-one slots one at)
  where
    left : List Slot
    left = set slots one empty_slot

    last : List Slot
    last = set left two empty_slot

    by_slot : (slice_index_or last at empty_slot ≡ slice_index_or left at empty_slot)
        ⊎ (slice_index_or last at empty_slot ≡ empty_slot)
        → (slice_index_or left at empty_slot ≡ slice_index_or slots at empty_slot)
        ⊎ (slice_index_or left at empty_slot ≡ empty_slot)
        → (slice_index_or last at empty_slot ≡ slice_index_or slots at empty_slot)
        ⊎ (slice_index_or last at empty_slot ≡ empty_slot)
    by_slot (inr gone) first = inr gone
    by_slot (inl same) (inl first) = inl (same ∙ first)
    by_slot (inl same) (inr gone) = inr (same ∙ gone)

-- where nothing is found in a part
pub kept-none : (slots : List Slot) (n : ℕ) → AreAmong slots (replicate n empty_slot)
kept-none slots n at begins = absurd (omega (arith, begins, none n at))
  where
    none : (n at : ℕ) → (slice_index_or (replicate n empty_slot) at empty_slot).start ≡ no_start
    none zero at = refl
    none (suc n) zero = refl
    none (suc n) (suc at) = none n at

-- a slot is another one, and what it had found isn't found in the part any more
pub kept-filled : (slots shown : List Slot) (place : ℕ) (slot : Slot) → AreAmong slots shown
    → AreAmong (set slots place slot) (set shown place empty_slot)
kept-filled slots shown place slot kept at begins =
    let old = emptied shown place at begins in
    old.1 ∙ kept at (subst (λ (s : Slot). s.start < no_start) old.1 begins)
    ∙ sym (get_or-set_other slots place at slot empty_slot old.0)

-- a slot of which the page is found in the part too
pub kept-found : (slots shown : List Slot) (place : ℕ) (slot : Slot) → place < length shown
    → slice_index_or slots place empty_slot ≡ slot → AreAmong slots shown
    → AreAmong slots (set shown place slot)
kept-found slots shown place slot there is kept at = go (eqb_tells at place)
  where
    Stands : Slot → ℕ → Type 0
    Stands s k = s.start < no_start → s ≡ slice_index_or slots k empty_slot

    go : ((eqb at place ≡ true) × (at ≡ place)) ⊎ ((eqb at place ≡ false) × (at ≢ place))
        → Stands (slice_index_or (set shown place slot) at empty_slot) at
    go (inl here) = subst (λ k. Stands (slice_index_or (set shown place slot) k empty_slot) k)
        (sym here.1)
        (λ begins. get_or-set_same shown place slot empty_slot there ∙ sym is)
    go (inr away) = subst (λ (s : Slot). Stands s at)
        (sym (get_or-set_other shown place at slot empty_slot away.1)) (kept at)

-- a frame whose one slot is emptied is no slot's
pub none-left : (slots : List Slot) (place frame : ℕ) → HasAlone slots place frame
    → IsNoCode (set slots place empty_slot) frame
none-left slots place frame alone =
    All-from_get_or (λ (s : Slot). s.start < no_start → s.frame ≢ frame)
    (set slots place empty_slot) empty_slot
    (λ at within begins same.
    let old = emptied slots place at begins in
    old.0 (alone at (subst (λ (s : Slot). s.start < no_start) old.1 begins)
    (ap (λ (s : Slot). s.frame % 256) (sym old.1) ∙ ap (λ k. k % 256) same)))

-- what a fetch has found in the part is what was found
pub shown-kept : (slots shown : List Slot) (address : ℕ) → AreAmong slots shown
    → address < 2 ^ 32 → (slot_of shown address).start ≡ page_start address
    → slot_of shown address ≡ slot_of slots address
shown-kept slots shown address kept fits found =
    kept (address / 4096 % 64) (omega (arith, found, fits))
