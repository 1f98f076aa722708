-- Which frame an access reaches, by the owners of the frames and the entries of a space. This
-- project's own rules.
use Rattle.std.specs.Prelude.{ℕ, ◌≡◌, ◌+◌, ◌*◌, ◌<◌, ◌/◌, ◌%◌, ◌^◌, List, Some, None}
use Rattle.std.specs.Prelude.{Result, Ok, Err, not, if◌then◌else◌, slice_index_or, All, ◌==◌}
use Rattle.dos_world.specs.World.{look}
use Rattle.dos_world.specs.Reach.{has_right, is_foreign, width}
use Rattle.dos_world.specs.declared.Access.{Access}
use Rattle.dos_world.specs.declared.Access.TheVariants.{Fetch, Load, Store, Claim}
use Rattle.dos_world.specs.declared.Entry.{Entry}
use Rattle.dos_world.specs.declared.Owner.{Owner}
use Rattle.dos_world.specs.declared.Owner.TheVariants.{Free}
use Rattle.dos_world.specs.declared.Reason.{Reason}
use Rattle.dos_world.specs.declared.Reason.TheVariants.{Page, Fault}
use Rattle.dos_world.specs.declared.Size.{Size}
pub use Rattle.page_store.specs.Compared.{no_start, page_start}
use Rattle.page_store.specs.declared.compared.Slot.{Slot}

-- the frame of an entry for an access of t, or why the access is refused: it lacks the right, or
-- the page is another's
abbrev pub frame_by : ℕ → List Owner → Access → ℕ → Entry → Result ℕ Reason
frame_by t owners access address e =
    if not (has_right access e) then Err (Fault 11)
    else (if is_foreign t access (slice_index_or owners e.frame Free) then Err
    (Page address access) else Ok e.frame)

-- the frame of an address's page for an access of t, or why the access is refused; no entry is
-- fault 11
abbrev pub frame_for : ℕ → List Owner → List (ℕ × Entry) → Access → ℕ → Result ℕ Reason
frame_for t owners entries access address =
    elim (look entries (address / 4096)) [
      | None ↦ Err (Fault 11)
      | Some e ↦ frame_by t owners access address e
    ]

-- the same of an access that takes so much, which has to be aligned; else it is fault 7
abbrev pub frame_for_size : ℕ → List Owner → List (ℕ × Entry) → Access → Size → ℕ
    → Result ℕ Reason
frame_for_size t owners entries access size address =
    if not (address % width size == 0) then Err (Fault 7)
    else frame_for t owners entries access address

abbrev pub frame_of : Entry → ℕ
frame_of e = e.frame

-- A page begins at the start, unless nothing is found. And each access of t to the page that begins
-- there would find this frame.
pub record IsFrameOf (t : ℕ) (owners : List Owner) (entries : List (ℕ × Entry)) (access : Access)
    (start frame : ℕ) : Type 0 where
  pub begins : start < no_start → start % 4096 ≡ 0
  pub finds : (address : ℕ) → address < 2 ^ 32 → page_start address ≡ start
      → frame_for t owners entries access address ≡ Ok frame

-- Each of these slots is right for such accesses of t.
abbrev pub AreFramesOf : ℕ → List Owner → List (ℕ × Entry) → Access → List Slot → Type 0
AreFramesOf t owners entries access slots =
    All (λ slot. IsFrameOf t owners entries access slot.start slot.frame) slots

-- Stores and claims, which reach the same frames.
abbrev pub IsWriting : Access → Type 0
IsWriting Fetch = ⊥
IsWriting Load = ⊥
IsWriting Store = Unit {0}
IsWriting Claim = Unit {0}

-- the place of an address in the flat bytes, by its page's frame
abbrev pub flat_place : ℕ → ℕ → ℕ
flat_place frame address = 4096 * frame + address % 4096
