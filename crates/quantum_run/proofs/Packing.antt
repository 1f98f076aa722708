-- What a pack holds, by frame.
use Rattle.std.proofs.Common.{ℕ, zero, suc, ◌+◌, ◌-◌, ◌*◌, ◌/◌, ◌%◌, ◌^◌, ◌<◌, ◌≤◌, ◌≡◌, ◌≢◌, ◌⊎◌}
use Rattle.std.proofs.Common.{inl, inr, refl, sym, ap, ◌∙◌, subst, cond, not, Bool, true, false}
use Rattle.std.proofs.Common.{eqb, eqb-true, List, [], ◌∷◌, length, map, min, get_or, take, drop}
use Rattle.std.proofs.Common.{slice_get, is_some, Option, Some, None, Result, Ok, Err, arith}
use Rattle.std.specs.Prelude.{slice_index_or}
use Rattle.std.proofs.lemmas.List.{ext_get_or, get_or-take, get_or-drop, length-take, length-drop}
use Rattle.std.proofs.lemmas.List.{get_or_past}
use Rattle.std.proofs.lemmas.Bool.{cases_lt}
use Rattle.dos_world.specs.World.{page_of, look}
use Rattle.dos_world.specs.Reach.{has_right, is_foreign}
use Rattle.dos_world.specs.declared.Access.{Access}
use Rattle.dos_world.specs.declared.Access.TheVariants.{Fetch, Load, Store, Claim}
use Rattle.dos_world.specs.declared.Entry.{Entry}
use Rattle.dos_world.specs.declared.Owner.{Owner}
use Rattle.dos_world.specs.declared.Owner.TheVariants.{Free, Shared, Of}
use Rattle.dos_world.specs.declared.Reason.{Reason}
use Rattle.dos_world.specs.declared.Reason.TheVariants.{Page, Fault}
use Rattle.page_store.specs.Store.{whole, shown, joined}
use Rattle.page_store.proofs.Joined.{page_of-joined}
use Rattle.quantum_run.specs.Finding.{frame_by, frame_for, IsWriting}
use Rattle.quantum_run.specs.Pages.{is_here, overlay}
use Rattle.quantum_run.specs.Packs.{IsPacked, bytes_of_frame, how_many, paired}
use Rattle.quantum_run.specs.Shows.{frames_of}
use Rattle.quantum_run.proofs.Overlay.{here-page, here-within, overlay-own, overlay-lent}

-- ---- lists of frames

pub frames-paired : (held : List ℕ) (table : List (Option (List ℕ)))
    → frames_of (paired held table) ≡ held
frames-paired [] table = refl
frames-paired (f ∷ held) table = ap (λ fs. f ∷ fs) (frames-paired held table)

pub paired-at : (held : List ℕ) (table : List (Option (List ℕ))) (i frame : ℕ)
    → slice_get held i ≡ Some frame
    → slice_get (paired held table) i ≡ Some (frame, bytes_of_frame table frame)
paired-at [] table i frame h = cc
paired-at (f ∷ held) table zero frame h = let is : f ≡ frame = cc in
    ap (λ x. Some (x, bytes_of_frame table x)) is
paired-at (f ∷ held) table (suc i) frame h = paired-at held table i frame h

-- and back
pub paired-is : (held : List ℕ) (table : List (Option (List ℕ))) (i frame : ℕ) (page : List ℕ)
    → slice_get (paired held table) i ≡ Some (frame, page) → (slice_get held i ≡ Some frame)
    × (bytes_of_frame table frame ≡ page)
paired-is [] table i frame page h = cc
paired-is (f ∷ held) table zero frame page h =
    let same : f ≡ frame = ap (λ o. number o) h in
    (ap Some same, ap (bytes_of_frame table) (sym same) ∙ ap (λ o. bytes o) h)
  where
    number : Option (ℕ × List ℕ) → ℕ
    number None = 0
    number (Some x) = x.0

    bytes : Option (ℕ × List ℕ) → List ℕ
    bytes None = []
    bytes (Some x) = x.1
paired-is (f ∷ held) table (suc i) frame page h = paired-is held table i frame page h

-- ---- pages that are here

pub bytes-here : (table : List (Option (List ℕ))) (frame : ℕ) (page : List ℕ)
    → slice_get table frame ≡ Some (Some page) → bytes_of_frame table frame ≡ whole page
bytes-here table frame page h =
    ap (λ o. elim o as (λ _. List ℕ) [ None ↦ shown None | Some x ↦ shown x ]) h

here-of : (table : List (Option (List ℕ))) (frame : ℕ)
    → is_here table frame ≡ get_or (map is_some table) frame false
here-of [] frame = refl
here-of (None ∷ table) zero = refl
here-of (Some page ∷ table) zero = refl
here-of (x ∷ table) (suc frame) = here-of table frame

count-of : (table after : List (Option (List ℕ))) → map is_some after ≡ map is_some table
    → how_many after ≡ how_many table
count-of [] [] same = refl
count-of [] (x ∷ after) same = absurd (grind arith)
count-of (x ∷ table) [] same = absurd (grind arith)
count-of (None ∷ table) (None ∷ after) same = count-of table after (ap (drop 1) same)
count-of (None ∷ table) (Some y ∷ after) same = absurd (grind arith)
count-of (Some x ∷ table) (None ∷ after) same = absurd (grind arith)
count-of (Some x ∷ table) (Some y ∷ after) same = ap suc (count-of table after (ap (drop 1) same))

length-is_some : (table : List (Option (List ℕ))) → length (map is_some table) ≡ length table
length-is_some [] = refl
length-is_some (x ∷ table) = ap suc (length-is_some table)

pub same-length : (table after : List (Option (List ℕ))) → map is_some after ≡ map is_some table
    → length after ≡ length table
same-length table after same = sym (length-is_some after) ∙ ap length same ∙ length-is_some table

pub same-here : (table after : List (Option (List ℕ))) (frame : ℕ)
    → map is_some after ≡ map is_some table → is_here after frame ≡ is_here table frame
same-here table after frame same = here-of after frame ∙ ap (λ bs. get_or bs frame false) same
    ∙ sym (here-of table frame)

pub packed-kept : (held : List ℕ) (table after : List (Option (List ℕ))) (capacity : ℕ)
    → map is_some after ≡ map is_some table → IsPacked held table capacity
    → IsPacked held after capacity
packed-kept held table after capacity same k = record {
  here = λ i frame h. same-here table after frame same ∙ k.here i frame h;
  all = λ frame h. k.all frame (sym (same-here table after frame same) ∙ h);
  apart = k.apart;
  count = k.count ∙ sym (count-of table after same);
  room_for = subst (λ (n : ℕ). n ≤ capacity) (sym (same-length table after same)) k.room_for;
  few = subst (λ (n : ℕ). n < 2 ^ 32) (sym (same-length table after same)) k.few;
}

-- ---- own pages before lent ones

away-is : (table : List (Option (List ℕ))) (frame : ℕ) → frame < length table
    → is_here table frame ≡ false → slice_get table frame ≡ Some None
away-is [] frame h e = absurd (omega arith)
away-is (None ∷ table) zero h e = refl
away-is (Some page ∷ table) zero h e = absurd (grind arith)
away-is (x ∷ table) (suc frame) h e = away-is table frame (omega arith) e

pub here-is : (pages : List (Option (List ℕ))) (frame : ℕ) (page : List ℕ)
    → slice_get pages frame ≡ Some (Some page) → is_here pages frame ≡ true
here-is pages frame page h = ap (λ o. elim o as (λ _. Bool) [ None ↦ false | Some x ↦ is_some x ]) h

get-within : (pages : List (Option (List ℕ))) (frame : ℕ) (page : List ℕ)
    → slice_get pages frame ≡ Some (Some page) → frame < length pages
get-within pages frame page h = here-within pages frame (here-is pages frame page h)

-- the bytes of an own page, and of a lent one that isn't own
pub page-own : (table lent : List (Option (List ℕ))) (frame : ℕ) → length table ≡ length lent
    → is_here table frame ≡ true
    → page_of (joined (overlay table lent)) frame ≡ bytes_of_frame table frame
page-own table lent frame level here =
    let page = here-page table frame here in
    page_of-joined (overlay table lent) frame (Some page.0)
    (overlay-own table lent frame page.0 level page.1)
    ∙ sym (bytes-here table frame page.0 page.1)

pub page-lent : (table lent : List (Option (List ℕ))) (frame : ℕ) (page : List ℕ)
    → length table ≡ length lent → is_here table frame ≡ false
    → slice_get lent frame ≡ Some (Some page)
    → page_of (joined (overlay table lent)) frame ≡ whole page
page-lent table lent frame page level none home =
    page_of-joined (overlay table lent) frame (Some page)
    (overlay-lent table lent frame level
    (away-is table frame
    (subst (λ (n : ℕ). frame < n) (sym level) (get-within lent frame page home))
    none) ∙ home)

pub overlay-here : (table lent : List (Option (List ℕ))) (frame : ℕ) → length table ≡ length lent
    → (is_here table frame ≡ true) ⊎ (is_here lent frame ≡ true)
    → is_here (overlay table lent) frame ≡ true
overlay-here table lent frame level (inl here) = let page = here-page table frame here in
    here-is (overlay table lent) frame page.0 (overlay-own table lent frame page.0 level page.1)
overlay-here table lent frame level (inr here) = by_own (is_here table frame) refl
  where
    by_own : (b : Bool) → is_here table frame ≡ b → is_here (overlay table lent) frame ≡ true
    by_own true own = let page = here-page table frame own in
        here-is (overlay table lent) frame page.0 (overlay-own table lent frame page.0 level page.1)
    by_own false own =
        let page = here-page lent frame here in
        here-is (overlay table lent) frame page.0
        (overlay-lent table lent frame level
        (away-is table frame
        (subst (λ (n : ℕ). frame < n) (sym level)
        (get-within lent frame page.0 page.1)) own) ∙ page.1)

-- ---- bytes of a page

pub byte-in-page : (bytes : List ℕ) (i : ℕ)
    → get_or (page_of bytes (i / 4096)) (i % 4096) 0 ≡ get_or bytes i 0
byte-in-page bytes i =
    let place : 4096 * (i / 4096) + i % 4096 ≡ i = omega arith in
    get_or-take 4096 (drop (4096 * (i / 4096)) bytes) (i % 4096) 0 (omega arith)
    ∙ get_or-drop (4096 * (i / 4096)) bytes (i % 4096) 0 ∙ ap (λ k. get_or bytes k 0) place

length-page : (xs ys : List ℕ) (frame : ℕ) → length xs ≡ length ys
    → length (page_of xs frame) ≡ length (page_of ys frame)
length-page xs ys frame e =
    length-take 4096 (drop (4096 * frame) xs)
    ∙ ap (min 4096) (length-drop (4096 * frame) xs ∙ ap (λ n. n - 4096 * frame) e
    ∙ sym (length-drop (4096 * frame) ys)) ∙ sym (length-take 4096 (drop (4096 * frame) ys))

-- pages are the same where their bytes are
pub page-same : (xs ys : List ℕ) (frame : ℕ) → length xs ≡ length ys
    → ((i : ℕ) → i / 4096 ≡ frame → get_or xs i 0 ≡ get_or ys i 0)
    → page_of xs frame ≡ page_of ys frame
page-same xs ys frame e same =
    ext_get_or 0 (page_of xs frame) (page_of ys frame) (length-page xs ys frame e)
    (λ i h. byte i (cases_lt i 4096))
  where
    byte : (i : ℕ) → (i < 4096) ⊎ (4096 ≤ i)
        → get_or (page_of xs frame) i 0 ≡ get_or (page_of ys frame) i 0
    byte i (inl low) =
        get_or-take 4096 (drop (4096 * frame) xs) i 0 low ∙ get_or-drop (4096 * frame) xs i 0
        ∙ same (4096 * frame + i) (omega (arith, low)) ∙ sym (get_or-drop (4096 * frame) ys i 0)
        ∙ sym (get_or-take 4096 (drop (4096 * frame) ys) i 0 low)
    byte i (inr high) = past (drop (4096 * frame) xs) ∙ sym (past (drop (4096 * frame) ys))
      where
        past : (zs : List ℕ) → get_or (take 4096 zs) i 0 ≡ 0
        past zs = get_or_past (take 4096 zs) i 0 (omega (arith, length-take 4096 zs, high))

-- ---- what accesses find

seen-owner : (t : ℕ) (x : Access) (o : Owner) → o ≢ Free → is_foreign t x o ≡ false
    → (o ≡ Of t) ⊎ (o ≡ Shared)
seen-owner t x (Of s) some h = inl (ap Of (eqb-true s t (back (eqb s t) h)))
  where
    back : (c : Bool) → not c ≡ false → c ≡ true
    back true q = refl
    back false q = absurd (grind arith)
seen-owner t x Shared some h = inr refl
seen-owner t x Free some h = absurd (some refl)

written-owner : (t : ℕ) (x : Access) (o : Owner) → IsWriting x → is_foreign t x o ≡ false → o ≡ Of t
written-owner t x (Of s) writes h = ap Of (eqb-true s t (back (eqb s t) h))
  where
    back : (c : Bool) → not c ≡ false → c ≡ true
    back true q = refl
    back false q = absurd (grind arith)
written-owner t Fetch Free writes h = absurd writes
written-owner t Load Free writes h = absurd writes
written-owner t Store Free writes h = absurd (grind arith)
written-owner t Claim Free writes h = absurd (grind arith)
written-owner t Fetch Shared writes h = absurd writes
written-owner t Load Shared writes h = absurd writes
written-owner t Store Shared writes h = absurd (grind arith)
written-owner t Claim Shared writes h = absurd (grind arith)

-- the entry by which a frame is found
record Found (t : ℕ) (owners : List Owner) (entries : List (ℕ × Entry)) (access : Access)
    (address frame : ℕ) : Type 0 where
  pub entry : Entry
  pub looked : look entries (address / 4096) ≡ Some entry
  pub is : entry.frame ≡ frame
  pub mine : is_foreign t access (slice_index_or owners frame Free) ≡ false

found : (t : ℕ) (owners : List Owner) (entries : List (ℕ × Entry)) (access : Access)
    (address frame : ℕ) → frame_for t owners entries access address ≡ Ok frame
    → Found t owners entries access address frame
found t owners entries access address frame h = by_entry (look entries (address / 4096)) refl h
  where
    by_test : (e : Entry) → look entries (address / 4096) ≡ Some e → (right foreign : Bool)
        → is_foreign t access (slice_index_or owners e.frame Free) ≡ foreign
        → cond (not right) (Err (Fault 11)) (cond foreign (Err (Page address access)) (Ok e.frame))
        ≡ Ok frame → Found t owners entries access address frame
    by_test e has false foreign q r = absurd (grind arith)
    by_test e has true true q r = absurd (grind arith)
    by_test e has true false q r =
        let same : e.frame ≡ frame = ok_is r in
        record {
          entry = e;
          looked = has;
          is = same;
          mine =
              subst (λ (f : ℕ). is_foreign t access (slice_index_or owners f Free) ≡ false) same q;
        }
      where
        ok_is : {a b : ℕ} → ◌≡◌ {A = Result ℕ Reason} (Ok a) (Ok b) → a ≡ b
        ok_is z = cc

    by_entry : (o : Option Entry) → look entries (address / 4096) ≡ o
        → (elim o as (λ _. Result ℕ Reason) [
          | None ↦ Err (Fault 11)
          | Some e ↦ frame_by t owners access address e
        ]) ≡ Ok frame
        → Found t owners entries access address frame
    by_entry None has q = absurd (grind arith)
    by_entry (Some e) has q =
        by_test e has (has_right access e)
        (is_foreign t access (slice_index_or owners e.frame Free)) refl q

module _ (t : ℕ) (owners : List Owner) (entries : List (ℕ × Entry))
    (table lent : List (Option (List ℕ))) (level : length table ≡ length lent)
    (mapped : (page : ℕ) (e : Entry) → look entries page ≡ Some e
    → (e.frame < length owners) × (slice_index_or owners e.frame Free ≢ Free))
    (own : (frame : ℕ) → slice_index_or owners frame Free ≡ Of t → is_here table frame ≡ true)
    (shared : (frame : ℕ) → slice_index_or owners frame Free ≡ Shared
    → is_here lent frame ≡ true) where
  pub all-reached : (access : Access) (address frame : ℕ)
      → frame_for t owners entries access address ≡ Ok frame
      → is_here (overlay table lent) frame ≡ true
  all-reached access address frame h =
      let f = found t owners entries access address frame h in
      by_owner (seen-owner t access (slice_index_or owners frame Free)
      (subst (λ (n : ℕ). slice_index_or owners n Free ≢ Free) f.is
      (mapped (address / 4096) f.entry f.looked).1) f.mine)
    where
      by_owner : (slice_index_or owners frame Free ≡ Of t)
          ⊎ (slice_index_or owners frame Free ≡ Shared) → is_here (overlay table lent) frame ≡ true
      by_owner (inl mine) = overlay-here table lent frame level (inl (own frame mine))
      by_owner (inr all) = overlay-here table lent frame level (inr (shared frame all))

  pub all-own : (access : Access) (address frame : ℕ) → IsWriting access
      → frame_for t owners entries access address ≡ Ok frame → is_here table frame ≡ true
  all-own access address frame writes h =
      let f = found t owners entries access address frame h in
      own frame (written-owner t access (slice_index_or owners frame Free) writes f.mine)
