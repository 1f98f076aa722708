-- The frames that accesses find, and their pages.
use Rattle.std.specs.Prelude.{slice_index_or}
use Rattle.std.proofs.lemmas.List.Elements.{All-same, All-set, All-replicate}
use Rattle.std.proofs.Common.{rules, replicate, ℕ, zero, suc, ◌+◌, ◌*◌, ◌/◌, ◌%◌, ◌^◌, ◌≡◌, ◌<◌}
use Rattle.std.proofs.Common.{◌≤◌}
use Rattle.std.proofs.Common.{refl, sym, ap, ◌∙◌, subst, cond, not, Bool, true, false, List, []}
use Rattle.std.proofs.Common.{◌∷◌}
use Rattle.std.proofs.Common.{length, map, drop, is_some, IsSome, All, set, slice_get, Option, Some}
use Rattle.std.proofs.Common.{None, Result, Ok, Err, arith, eq-eqb, ne_eqb, ◌≢◌}
use Rattle.dos_world.specs.World.{look}
use Rattle.dos_world.specs.Reach.{has_right, is_foreign, width, written, bytes_of}
use Rattle.dos_world.specs.declared.Access.{Access}
use Rattle.dos_world.specs.declared.Access.TheVariants.{Fetch, Load, Store, Claim}
use Rattle.dos_world.specs.declared.Entry.{Entry}
use Rattle.dos_world.specs.declared.Owner.{Owner}
use Rattle.dos_world.specs.declared.Owner.TheVariants.{Free}
use Rattle.dos_world.specs.declared.Reason.{Reason}
use Rattle.dos_world.specs.declared.Reason.TheVariants.{Page, Fault}
use Rattle.dos_world.specs.declared.Size.{Size}
use Rattle.dos_world.specs.declared.Size.TheVariants.{Byte, Half, Word}
use Rattle.page_store.specs.Store.{Store as Frames, whole, joined, number_at}
use Rattle.std.proofs.lemmas.List.Elements.{All-nil, All-cons, All-head, All-tail}
use Rattle.page_store.proofs.Joined.{joined-number, joined-written}
use Rattle.quantum_run.specs.ThreadRuns.{AreMapped}
use Rattle.page_store.specs.declared.compared.Slot.{Slot}
use Rattle.quantum_run.specs.Finding.{AreFramesOf, IsFrameOf, IsWriting, frame_by, frame_for}
use Rattle.quantum_run.specs.Finding.{frame_for_size, no_start, page_start}
use Rattle.quantum_run.specs.Knowing.{empty_slot}
use Rattle.quantum_run.specs.Pages.{Writes, is_here}

-- ---- frames

Ok-is : {a b : ℕ} → ◌≡◌ {A = Result ℕ Reason} (Ok a) (Ok b) → a ≡ b
Ok-is h = cc

frame_by-is : (t : ℕ) (owners : List Owner) (access : Access) (address frame : ℕ) (e : Entry)
    → frame_by t owners access address e ≡ Ok frame → e.frame ≡ frame
frame_by-is t owners access address frame e h =
    by_right (has_right access e) (is_foreign t access (slice_index_or owners e.frame Free)) h
  where
    by_right : (right foreign : Bool)
        → cond (not right) (Err (Fault 11)) (cond foreign (Err (Page address access)) (Ok e.frame))
        ≡ Ok frame → e.frame ≡ frame
    by_right false foreign q = cc
    by_right true true q = cc
    by_right true false q = Ok-is q

-- a frame that is found is one of the frames
pub found-within : (t : ℕ) (s : Frames) (entries : List (ℕ × Entry)) (access : Access)
    (address frame : ℕ) → AreMapped s entries
    → frame_for t s.owners entries access address ≡ Ok frame → frame < length s.pages
found-within t s entries access address frame mapped h =
    by_entry (look entries (address / 4096)) refl h
  where
    by_entry : (o : Option Entry) → look entries (address / 4096) ≡ o
        → (elim o as (λ _. Result ℕ Reason) [
          | None ↦ Err (Fault 11)
          | Some e ↦ frame_by t s.owners access address e
        ]) ≡ Ok frame
        → frame < length s.pages
    by_entry None is q = cc
    by_entry (Some e) is q =
        subst (λ (f : ℕ). f < length s.pages) (frame_by-is t s.owners access address frame e q)
        (mapped (address / 4096) e is).0

-- a slot that has found nothing is right
pub nothing-right : (t : ℕ) (owners : List Owner) (entries : List (ℕ × Entry)) (access : Access)
    → IsFrameOf t owners entries access no_start 0xFFFFFFFF
nothing-right t owners entries access = record {
  begins = λ small. absurd (omega (arith, small));
  finds = λ address small here. absurd (omega (arith, small, here));
}

-- slots that have found nothing are right
pub none-found : (t : ℕ) (owners : List Owner) (entries : List (ℕ × Entry)) (access : Access)
    (slots : List Slot) → slots ≡ replicate 64 (empty_slot)
    → AreFramesOf t owners entries access slots
none-found t owners entries access slots empty =
    let P : Slot → Type 0 = λ slot. IsFrameOf t owners entries access slot.start slot.frame in
    All-same P slots (replicate 64 (empty_slot)) empty
    (All-replicate P 64 (empty_slot) (nothing-right t owners entries access))

-- what a store finds, a claim finds too
pub writes-found : (t : ℕ) (owners : List Owner) (entries : List (ℕ × Entry)) (access : Access)
    (address frame : ℕ) → IsWriting access → frame_for t owners entries Store address ≡ Ok frame
    → frame_for t owners entries access address ≡ Ok frame
writes-found t owners entries Fetch address frame w h = absurd w
writes-found t owners entries Load address frame w h = absurd w
writes-found t owners entries Store address frame w h = h
writes-found t owners entries Claim address frame w h = search rules

-- and so is one more that is right
pub more-found : (t : ℕ) (owners : List Owner) (entries : List (ℕ × Entry)) (access : Access)
    (slots new : List Slot) (place : ℕ) (slot : Slot) → new ≡ set slots place slot
    → IsFrameOf t owners entries access slot.start slot.frame
    → AreFramesOf t owners entries access slots → AreFramesOf t owners entries access new
more-found t owners entries access slots new place slot is right are =
    let P : Slot → Type 0 = λ slot. IsFrameOf t owners entries access slot.start slot.frame in
    All-same P new (set slots place slot) is (All-set P slots place slot right are)

-- a frame that an access finds is found again at each address of its page
pub found-again : (t : ℕ) (owners : List Owner) (entries : List (ℕ × Entry)) (access : Access)
    (address frame : ℕ) → frame_for t owners entries access address ≡ Ok frame
    → IsFrameOf t owners entries access (page_start address) frame
found-again t owners entries access address frame h = record {
  begins = λ small. omega arith;
  finds = λ a fits same. let page : a / 4096 ≡ address / 4096 = omega (arith, same) in
      subst (λ (number : ℕ). (elim (look entries number) as (λ _. Result ℕ Reason) [
        | None ↦ Err (Fault 11)
        | Some e ↦ frame_by t owners access a e
      ]) ≡ Ok frame) (sym page) (by_entry a (look entries (address / 4096)) h);
}
  where
    by_right : (a : ℕ) (right foreign : Bool) (f : ℕ)
        → cond (not right) (Err (Fault 11)) (cond foreign (Err (Page address access)) (Ok f))
        ≡ Ok frame
        → cond (not right) (Err (Fault 11)) (cond foreign (Err (Page a access)) (Ok f)) ≡ Ok frame
    by_right a false foreign f q = q
    by_right a true true f q = cc
    by_right a true false f q = q

    by_entry : (a : ℕ) (o : Option Entry)
        → (elim o as (λ _. Result ℕ Reason) [
          | None ↦ Err (Fault 11)
          | Some e ↦ frame_by t owners access address e
        ]) ≡ Ok frame
        → (elim o as (λ _. Result ℕ Reason) [
          | None ↦ Err (Fault 11)
          | Some e ↦ frame_by t owners access a e
        ]) ≡ Ok frame
    by_entry a None q = q
    by_entry a (Some e) q =
        by_right a (has_right access e) (is_foreign t access (slice_index_or owners e.frame Free))
        e.frame q

-- what a store or claim finds, stores find again
pub stores-again : (t : ℕ) (owners : List Owner) (entries : List (ℕ × Entry)) (access : Access)
    (address frame : ℕ) → IsWriting access → frame_for t owners entries access address ≡ Ok frame
    → IsFrameOf t owners entries Store (page_start address) frame
stores-again t owners entries Fetch address frame w h = absurd w
stores-again t owners entries Load address frame w h = absurd w
stores-again t owners entries Store address frame w h =
    found-again t owners entries Store address frame h
stores-again t owners entries Claim address frame w h =
    let store : frame_for t owners entries Store address ≡ Ok frame = search rules in
    found-again t owners entries Store address frame store

-- where a slot has the start of an aligned address's page, the access finds its frame
pub aligned-found : (t : ℕ) (owners : List Owner) (entries : List (ℕ × Entry)) (access : Access)
    (start frame address : ℕ) (size : Size) → IsFrameOf t owners entries access start frame
    → address < 2 ^ 32 → start ≡ page_start address + address % width size
    → (address % width size ≡ 0) × (frame_for t owners entries access address ≡ Ok frame)
aligned-found t owners entries access start frame address size is fits same =
    let aligned : address % width size ≡ 0 = by_start size same in (
      aligned,
      is.finds address fits (sym (same ∙ ap (λ n. page_start address + n) aligned
          ∙ plus-none (page_start address))),
    )
  where
    plus-none : (n : ℕ) → n + 0 ≡ n
    plus-none n = omega arith

    by_start : (x : Size) → start ≡ page_start address + address % width x
        → address % width x ≡ 0
    by_start Byte s = omega arith
    by_start Half s =
        let begins = is.begins (omega (arith, s, fits)) in omega (arith, begins, s)
    by_start Word s =
        let begins = is.begins (omega (arith, s, fits)) in omega (arith, begins, s)

-- the frame of an entry that stands there, has the right and isn't another's
pub entry-found : (t : ℕ) (owners : List Owner) (entries : List (ℕ × Entry)) (access : Access)
    (address : ℕ) (e : Entry) → look entries (address / 4096) ≡ Some e
    → has_right access e ≡ true → is_foreign t access (slice_index_or owners e.frame Free) ≡ false
    → frame_for t owners entries access address ≡ Ok e.frame
entry-found t owners entries access address e is right own =
    ap (λ (o : Option Entry). elim o as (λ _. Result ℕ Reason) [
      | None ↦ Err (Fault 11)
      | Some e ↦ frame_by t owners access address e
    ]) is
    ∙ ap (λ b. cond (not b) (Err (Fault 11))
    (cond (is_foreign t access (slice_index_or owners e.frame Free)) (Err (Page address access))
    (Ok e.frame))) right
    ∙ ap (λ b. cond b (Err (Page address access)) (Ok e.frame)) own

-- a misaligned access that takes so much is refused
pub misaligned : (t : ℕ) (owners : List Owner) (entries : List (ℕ × Entry)) (access : Access)
    (size : Size) (address : ℕ) → address % width size ≢ 0
    → frame_for_size t owners entries access size address ≡ Err (Fault 7)
misaligned t owners entries access size address other =
    ap (λ b. cond (not b) (Err (Fault 7)) (frame_for t owners entries access address))
    (ne_eqb (address % width size) 0 other)

-- an aligned access that takes so much is refused where any is
pub sized : (t : ℕ) (owners : List Owner) (entries : List (ℕ × Entry)) (access : Access)
    (size : Size) (address : ℕ) → address % width size ≡ 0
    → frame_for_size t owners entries access size address
    ≡ frame_for t owners entries access address
sized t owners entries access size address aligned =
    ap (λ b. cond (not b) (Err (Fault 7)) (frame_for t owners entries access address))
    (eq-eqb (address % width size) 0 aligned)

-- ---- pages

-- where all are home, each is here
pub home-here : (pages : List (Option (List ℕ))) (frame : ℕ) → All IsSome pages
    → frame < length pages → is_here pages frame ≡ true
home-here [] frame home h = absurd (omega arith)
home-here (None ∷ pages) frame home h = absurd (grind (arith, All-head IsSome None pages home))
home-here (Some page ∷ pages) zero home h = refl
home-here (x ∷ pages) (suc frame) home h =
    home-here pages frame (All-tail IsSome x pages home) (omega arith)

-- all are home where as many and the same were
pub home-kept : (pages new : List (Option (List ℕ))) → map is_some new ≡ map is_some pages
    → All IsSome pages → All IsSome new
home-kept pages [] e home = All-nil IsSome
home-kept [] (x ∷ new) e home = absurd (grind arith)
home-kept (None ∷ pages) (y ∷ new) e home = absurd (grind (arith, All-head IsSome None pages home))
home-kept (Some x ∷ pages) (None ∷ new) e home = absurd (grind arith)
home-kept (Some x ∷ pages) (Some y ∷ new) e home =
    All-cons IsSome (Some y) new refl
    (home-kept pages new (ap (drop 1) e) (All-tail IsSome (Some x) pages home))

-- an aligned access lies in one page
pub aligned-within : (address : ℕ) (size : Size) → address % width size ≡ 0
    → address % 4096 + width size ≤ 4096
aligned-within address size h =
    elim size as (λ (x : Size). address % width x ≡ 0
    → address % 4096 + width x ≤ 4096) [
      | Byte ↦ λ q. omega arith
      | Half ↦ λ q. omega arith
      | Word ↦ λ q. omega arith
    ] h

-- and at an aligned offset of it
pub aligned-offset : (address : ℕ) (size : Size) → address % width size ≡ 0
    → address % 4096 % width size ≡ 0
aligned-offset address size h =
    elim size as (λ (x : Size). address % width x ≡ 0 → address % 4096 % width x ≡ 0) [
      | Byte ↦ λ q. omega arith
      | Half ↦ λ q. omega arith
      | Word ↦ λ q. omega arith
    ] h

-- a number read from a page is the one in the flat bytes
pub read-there : (pages : List (Option (List ℕ))) (frame offset : ℕ) (size : Size) (page : List ℕ)
    (n : ℕ) → slice_get pages frame ≡ Some (Some page) → offset + width size ≤ 4096
    → n ≡ number_at (whole page) offset size
    → n ≡ number_at (joined pages) (4096 * frame + offset) size
read-there pages frame offset size page n home within is =
    is ∙ sym (joined-number pages frame offset (width size) (4096 * frame + offset) (Some page) home
    within refl)

pub length-bytes : (k n : ℕ) → length (bytes_of k n) ≡ k
length-bytes zero n = refl
length-bytes (suc k) n = ap suc (length-bytes k (n / 256))

-- a number written in a page is written in the flat bytes
pub writes-joined : (pages new : List (Option (List ℕ))) (frame offset : ℕ) (size : Size)
    (value : ℕ) → offset + width size ≤ 4096
    → Writes pages new frame offset (bytes_of (width size) value)
    → joined new ≡ written (joined pages) (4096 * frame + offset) (bytes_of (width size) value)
writes-joined pages new frame offset size value within w =
    ap joined w.pages
    ∙ joined-written pages frame offset (4096 * frame + offset) w.before w.after
    (bytes_of (width size) value) w.was w.is
    (omega (arith, length-bytes (width size) value, within)) refl

-- what holds where it was written and where it wasn't
pub either-way : {A : Type 0} (done : Bool) → (done ≡ true → A) → (done ≡ false → A) → A
either-way true did didnt = did refl
either-way false did didnt = didnt refl
