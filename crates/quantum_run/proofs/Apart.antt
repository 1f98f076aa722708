-- Slots that have found nothing, and slots of fetches beside those of stores.
use Rattle.std.proofs.Common.{ℕ, ◌<◌, ◌≤◌, ◌≡◌, ◌≢◌, sym, List, set}
use Rattle.std.proofs.Common.{Bool, true, false, replicate, arith, subst, ◌⊎◌, inl, inr}
use Rattle.std.proofs.Common.{All}
use Rattle.std.proofs.Common.{length, ◌∙◌, ap, eqb, ◌%◌}
use Rattle.std.proofs.lemmas.Bool.{cases_lt}
use Rattle.std.proofs.lemmas.Bool.Decides.{eqb_tells}
use Rattle.std.proofs.lemmas.List.{get_or_past, get_or-set_other, get_or-set_same}
use Rattle.std.specs.Prelude.{slice_index_or}
use Rattle.std.proofs.lemmas.List.Elements.{All-same, All-set, All-replicate}
use Rattle.std.proofs.lemmas.List.Elements.{All-from_get_or}
use Rattle.page_store.specs.declared.compared.Slot.{Slot}
use Rattle.quantum_run.specs.Finding.{no_start}
use Rattle.quantum_run.specs.Knowing.{AreHidden, FetchesAreApart, IsNoCode}
use Rattle.quantum_run.specs.Knowing.{SlotsAreMarked, empty_slot}

-- where nothing is found for stores
pub apart-none : (shown : List Slot) (n : ℕ) → FetchesAreApart shown (replicate n empty_slot)
apart-none shown n =
    All-replicate (λ (slot : Slot). slot.start < no_start → IsNoCode shown slot.frame) n
    empty_slot
    (λ h. absurd (omega (arith, h)))

-- one more slot of a fetch, whose frame no store finds
pub apart-shown : (shown stored : List Slot) (place : ℕ) (slot : Slot)
    → FetchesAreApart shown stored → IsNoCode stored slot.frame
    → FetchesAreApart (set shown place slot) stored
apart-shown shown stored place slot apart free k d h small =
    All-set (λ (s : Slot). s.start < no_start → s.frame ≢ (slice_index_or stored k d).frame) shown
    place slot (λ begins same. free k d h small (sym same)) (apart k d h small)

-- one more slot for stores, of a frame that no fetch has found
pub apart-stored : (shown stored new : List Slot) (place : ℕ) (slot : Slot)
    → new ≡ set stored place slot → FetchesAreApart shown stored → IsNoCode shown slot.frame
    → FetchesAreApart shown new
apart-stored shown stored new place slot is apart free =
    let P : Slot → Type 0 = λ (s : Slot). s.start < no_start → IsNoCode shown s.frame in
    All-same P new (set stored place slot) is
    (All-set P stored place slot (λ small. free) apart)

-- each slot is as it was, or has found nothing any more
pub hidden-slot : (P : Slot → Type 0) (old new : List Slot) → P empty_slot → AreHidden old new
    → All P old → All P new
hidden-slot P old new none hidden all =
    All-from_get_or P new empty_slot (λ k within. by_slot k (hidden k)
    (cases_lt k (length old)))
  where
    by_slot : (k : ℕ) → (slice_index_or new k empty_slot ≡ slice_index_or old k empty_slot)
        ⊎ (slice_index_or new k empty_slot ≡ empty_slot)
        → (k < length old) ⊎ (length old ≤ k) → P (slice_index_or new k empty_slot)
    by_slot k (inr gone) h = subst P (sym gone) none
    by_slot k (inl same) (inl h) = subst P (sym same) (all k empty_slot h)
    by_slot k (inl same) (inr past) = subst P (sym (same ∙ get_or_past old k empty_slot past)) none

pub apart-hidden : (shown new stored : List Slot) → AreHidden shown new
    → FetchesAreApart shown stored → FetchesAreApart new stored
apart-hidden shown new stored hidden apart k d h small =
    hidden-slot (λ (s : Slot). s.start < no_start → s.frame ≢ (slice_index_or stored k d).frame)
    shown new (λ begins. absurd (omega (arith, begins))) hidden (apart k d h small)

-- ---- marks

-- A frame whose mark isn't set is no slot's.
pub none-marked : (slots : List Slot) (marks : List Bool) (frame : ℕ) → SlotsAreMarked slots marks
    → slice_index_or marks (frame % 64) false ≡ false → IsNoCode slots frame
none-marked slots marks frame marked none k d h small same =
    not-both (sym (marked k d h small)
    ∙ ap (λ (f : ℕ). slice_index_or marks (f % 64) false) same ∙ none)
  where
    not-both : true ≡ false → ⊥
    not-both h = cc

-- one more mark set
still-marked : (marks : List Bool) (place k : ℕ) → place < length marks
    → slice_index_or marks k false ≡ true → slice_index_or (set marks place true) k false ≡ true
still-marked marks place k within is = by_place (eqb_tells k place)
  where
    by_place : ((eqb k place ≡ true) × (k ≡ place)) ⊎ ((eqb k place ≡ false) × (k ≢ place))
        → slice_index_or (set marks place true) k false ≡ true
    by_place (inl here) =
        ap (λ (i : ℕ). slice_index_or (set marks place true) i false) here.1
        ∙ get_or-set_same marks place true false within
    by_place (inr other) = get_or-set_other marks place k true false other.1 ∙ is

-- one more slot, whose frame is marked
pub marked-more : (slots : List Slot) (marks : List Bool) (place mark : ℕ) (slot : Slot)
    → slot.frame % 64 ≡ mark → mark < length marks → SlotsAreMarked slots marks
    → SlotsAreMarked (set slots place slot) (set marks mark true)
marked-more slots marks place mark slot is within marked =
    let P : Slot → Type 0 =
    λ (s : Slot). s.start < no_start
    → slice_index_or (set marks mark true) (s.frame % 64) false ≡ true in
    All-set P slots place slot
    (λ small. ap (λ (i : ℕ). slice_index_or (set marks mark true) i false) is
    ∙ get_or-set_same marks mark true false within)
    (λ k d h small. still-marked marks mark ((slice_index_or slots k d).frame % 64) within
    (marked k d h small))

pub marked-none : (marks : List Bool) (n : ℕ) → SlotsAreMarked (replicate n empty_slot) marks
marked-none marks n =
    All-replicate (λ (slot : Slot). slot.start < no_start
    → slice_index_or marks (slot.frame % 64) false ≡ true) n empty_slot
    (λ h. absurd (omega (arith, h)))
