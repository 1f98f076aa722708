-- Blocks that have been compared stay right, as pages are found, compared and written.
use Rattle.std.proofs.Common.{ℕ, zero, suc, ◌+◌, ◌*◌, ◌/◌, ◌%◌, ◌^◌, ◌<◌, ◌≤◌, ◌≡◌, ◌≢◌, ◌⊎◌}
use Rattle.std.proofs.Common.{inl, inr}
use Rattle.std.proofs.Common.{refl, sym, ap, ◌∙◌, subst, arith, List, [], ◌∷◌, length, take}
use Rattle.std.proofs.Common.{drop, set}
use Rattle.std.proofs.Common.{Bool, true, false, Option, Some, None, slice_get}
use Rattle.std.proofs.Common.{MutBor}
use Rattle.std.proofs.Common.{map, eqb}
use Rattle.std.specs.Prelude.{if◌then◌else◌, slice_index, slice_index_or, unwrap_or}
use Rattle.std.specs.Option.{option_map}
use Rattle.std.proofs.lemmas.Bool.{cases_lt}
use Rattle.std.proofs.lemmas.Bool.Decides.{eqb_tells}
use Rattle.std.proofs.lemmas.List.{get_or-set_other, get_or_default, get_or_past, length-map}
use Rattle.dos_world.specs.Bytes.{zero_page}
use Rattle.page_store.specs.Store.{whole}
use Rattle.page_store.proofs.Pages.{length-whole, length-written, length-zero_page}
use Rattle.code_pages.specs.Lines.{AreKnownPages, AreSameIn, CodePage, Known, bytes_of_pages}
use Rattle.code_pages.specs.Lines.{page_bytes_at, with_block}
use Rattle.code_pages.proofs.Bytes.{block-beside, block-byte, block-is}
use Rattle.page_store.specs.declared.compared.Slot.{Slot}
use Rattle.page_store.specs.declared.compared.Compared.{Compared}
use Rattle.quantum_run.specs.Finding.{no_start, page_start}
use Rattle.quantum_run.specs.Knowing.{AreAmong, AreFewer, AreHidden, AreRight, AreSameAround}
use Rattle.quantum_run.specs.Knowing.{IsChecked, IsCompared, IsNoCode, IsRightAt, IsUncompared}
use Rattle.quantum_run.specs.Knowing.{KeepsRight}
use Rattle.quantum_run.specs.Knowing.{block_place, code_place, empty_slot, slot_of}
use Rattle.quantum_run.specs.Pages.{Writes}

-- ---- lists

pub got-set-same : {A : Type 0} (xs : List A) (i : ℕ) (y : A) → i < length xs
    → slice_get (set xs i y) i ≡ Some y
got-set-same [] i y h = absurd (omega (arith, h))
got-set-same (x ∷ xs) zero y h = refl
got-set-same (x ∷ xs) (suc i) y h = got-set-same xs i y (omega (arith, h))

pub got-set-other : {A : Type 0} (xs : List A) (i k : ℕ) (y : A) → k ≢ i
    → slice_get (set xs i y) k ≡ slice_get xs k
got-set-other [] i k y h = refl
got-set-other (x ∷ xs) zero zero y h = absurd (h refl)
got-set-other (x ∷ xs) zero (suc k) y h = refl
got-set-other (x ∷ xs) (suc i) zero y h = refl
got-set-other (x ∷ xs) (suc i) (suc k) y h = got-set-other xs i k y (λ e. h (ap suc e))

Some-same : {A : Type 0} {x y : A} → ◌≡◌ {A = Option A} (Some x) (Some y) → x ≡ y
Some-same h = cc

-- ---- slots

-- a slot that has found a page is one of them
pub slot-there : (slots : List Slot) (address : ℕ) → address < 2 ^ 32
    → (slot_of slots address).start ≡ page_start address → address / 4096 % 64 < length slots
slot-there slots address fits found =
    by_order (cases_lt (address / 4096 % 64) (length slots))
  where
    by_order : (address / 4096 % 64 < length slots) ⊎ (length slots ≤ address / 4096 % 64)
        → address / 4096 % 64 < length slots
    by_order (inl h) = h
    by_order (inr h) =
        let none : (slot_of slots address).start ≡ no_start =
        ap (λ (s : Slot). s.start) (get_or_past slots (address / 4096 % 64) empty_slot h) in
        absurd (omega (arith, none, found, fits))

-- the slot of an address, whatever stands for slots that aren't there
pub slot-here : (slots : List Slot) (address place : ℕ) (none : Slot)
    → place ≡ address / 4096 % 64 → place < length slots
    → slice_index_or slots place none ≡ slot_of slots address
slot-here slots address place none is within =
    get_or_default slots place none empty_slot within
    ∙ ap (λ (k : ℕ). slice_index_or slots k empty_slot) is

-- and no slot that has found nothing
slot-begins : (slots : List Slot) (address : ℕ) → address < 2 ^ 32
    → (slot_of slots address).start ≡ page_start address → (slot_of slots address).start < no_start
slot-begins slots address fits found = omega (arith, found, fits)

-- ---- what stays right

pub keeps-same : {P : Type 0} (pages : P → List (Option (List ℕ))) (p p' : P)
    (c c' : MutBor Compared) → c' ≡ c → p' ≡ p
    → KeepsRight c.now.slots c.now.blocks (pages p) c'.now.slots c'.now.blocks (pages p')
keeps-same {P} pages p p' c c' is same known are =
    subst (λ (x : MutBor Compared). AreRight x.now.slots x.now.blocks (pages p') known) (sym is)
    (subst (λ (x : P). AreRight c.now.slots c.now.blocks (pages x) known) (sym same) are)

-- what is right is right by other names too
pub right-same : (slots left : List Slot) (compared after : List Bool)
    (pages new known more : List (Option (List ℕ))) → left ≡ slots → after ≡ compared
    → new ≡ pages → more ≡ known → AreRight slots compared pages known
    → AreRight left after new more
right-same slots left compared after pages new known more same unchanged still is are =
    subst (λ (x : List Slot). AreRight x after new more) (sym same)
    (subst (λ (x : List Bool). AreRight slots x new more) (sym unchanged)
    (subst (λ (x : List (Option (List ℕ))). AreRight slots compared x more) (sym still)
    (subst (λ (x : List (Option (List ℕ))). AreRight slots compared pages x) (sym is) are)))

-- what is right at an address is right by each list with the same slot
right-there : (shown new : List Slot) (pages known : List (Option (List ℕ))) (address : ℕ)
    → slot_of new address ≡ slot_of shown address
    → IsRightAt shown pages known address → IsRightAt new pages known address
right-there shown new pages known address same right = record {
  own = right.own;
  here = right.here;
  page = right.page;
  there = ap (λ (s : Slot). slice_get pages s.frame) same ∙ right.there;
  same = right.same;
}

-- where no slot found another page, and no block has been compared that hadn't been
keeps-fewer : (shown new : List Slot) (compared after : List Bool)
    (pages : List (Option (List ℕ)))
    → ((address : ℕ) → address < 2 ^ 32 → IsCompared new after address
    → (slot_of new address ≡ slot_of shown address)
    × (slice_get compared (block_place address) ≡ Some true))
    → KeepsRight shown compared pages new after pages
keeps-fewer shown new compared after pages fewer known are address fits is =
    let old = fewer address fits is in
    right-there shown new pages known address old.0
    (are address fits (record {
      found = ap (λ (s : Slot). s.start) (sym old.0) ∙ is.found;
      is = old.1;
    }))

-- slots that have found nothing any more
pub keeps-hidden : (shown new : List Slot) (compared : List Bool) (pages : List (Option (List ℕ)))
    → AreHidden shown new → KeepsRight shown compared pages new compared pages
keeps-hidden shown new compared pages hidden =
    keeps-fewer shown new compared compared pages
    (λ address fits is. (by_slot address fits is (hidden (address / 4096 % 64)), is.is))
  where
    by_slot : (address : ℕ) → address < 2 ^ 32 → IsCompared new compared address
        → (slot_of new address ≡ slot_of shown address) ⊎ (slot_of new address ≡ empty_slot)
        → slot_of new address ≡ slot_of shown address
    by_slot address fits is (inl same) = same
    by_slot address fits is (inr none) =
        let start : (slot_of new address).start ≡ no_start = ap (λ (s : Slot). s.start) none in
        let found = is.found in
        absurd (omega (arith, start, found, fits))

-- those that a fetch has found in a part
pub keeps-among : (slots shown : List Slot) (compared : List Bool) (pages : List (Option (List ℕ)))
    → AreAmong slots shown → KeepsRight slots compared pages shown compared pages
keeps-among slots shown compared pages kept =
    keeps-fewer slots shown compared compared pages
    (λ address fits is.
    (kept (address / 4096 % 64) (slot-begins shown address fits is.found), is.is))

-- a page more that a fetch finds, of which no block has been compared
pub keeps-found : (shown : List Slot) (compared after : List Bool)
    (pages : List (Option (List ℕ))) (place : ℕ) (slot : Slot)
    → IsUncompared after place → AreFewer compared after
    → KeepsRight shown compared pages (set shown place slot) after pages
keeps-found shown compared after pages place slot none fewer =
    keeps-fewer shown (set shown place slot) compared after pages
    (λ address fits is. (other address is, fewer (block_place address) is.is))
  where
    other : (address : ℕ) → IsCompared (set shown place slot) after address
        → slot_of (set shown place slot) address ≡ slot_of shown address
    other address is = get_or-set_other shown place (address / 4096 % 64) slot empty_slot
        (λ here. none (block_place address) (omega (arith, here)) is.is)

-- what is written in a frame that no fetch has found
pub keeps-written : (shown : List Slot) (compared : List Bool)
    (pages new : List (Option (List ℕ))) (frame offset : ℕ) (bytes : List ℕ)
    → Writes pages new frame offset bytes → IsNoCode shown frame
    → KeepsRight shown compared pages shown compared new
keeps-written shown compared pages new frame offset bytes writes free known are address fits is =
    let right = are address fits is in
    let other : (slot_of shown address).frame ≢ frame =
    free (address / 4096 % 64) empty_slot (slot-there shown address fits is.found)
    (slot-begins shown address fits is.found) in
    record {
      own = right.own;
      here = right.here;
      page = right.page;
      there = ap (λ (ps : List (Option (List ℕ))). slice_get ps (slot_of shown address).frame)
          writes.pages
          ∙ got-set-other pages frame (slot_of shown address).frame (Some writes.after) other
          ∙ right.there;
      same = right.same;
    }

-- ---- a block that is compared

-- a page that is known has 4096 bytes, and so have the zeros where none is
bytes-there : (known : Known) (place : ℕ) → AreKnownPages known
    → length (page_bytes_at known place) ≡ 4096
bytes-there known place are = by_page known.pages place (λ page is. (are.each place page is).bytes)
  where
    by_page : (pages : List (Option CodePage)) (at : ℕ)
        → ((page : CodePage) → slice_get pages at ≡ Some (Some page) → length page.bytes ≡ 4096)
        → length (unwrap_or (slice_index_or
        (map (λ page. option_map (λ (p : CodePage). p.bytes) page) pages) at None) zero_page)
        ≡ 4096
    by_page [] at h = length-zero_page
    by_page (None ∷ pages) zero h = length-zero_page
    by_page (Some page ∷ pages) zero h = h page refl
    by_page (page ∷ pages) (suc at) h = by_page pages at h

-- the bytes that are known at a place
bytes-known : (known : Known) (place : ℕ) (own : List ℕ)
    → slice_get (bytes_of_pages known) place ≡ Some (Some own)
    → own ≡ page_bytes_at known place
bytes-known known place own here = by_list (bytes_of_pages known) place here
  where
    by_list : (pages : List (Option (List ℕ))) (at : ℕ) → slice_get pages at ≡ Some (Some own)
        → own ≡ unwrap_or (slice_index_or pages at None) zero_page
    by_list [] at h = cc
    by_list (page ∷ pages) zero h =
        ap (λ (p : Option (List ℕ)). unwrap_or p zero_page) (sym (Some-same h))
    by_list (page ∷ pages) (suc at) h = by_list pages at h

-- as many pages are known as places
bytes-many : (known : Known) → length (bytes_of_pages known) ≡ length known.pages
bytes-many known = length-map known.pages (λ page. option_map (λ (p : CodePage). p.bytes) page)

-- One block more has been compared, in the page of a slot that a fetch has found.
module _ (shown : List Slot) (compared : List Bool) (pages : List (Option (List ℕ)))
    (known : Known) (address block : ℕ) (page : List ℕ) (fits : address < 2 ^ 32)
    (found : (slot_of shown address).start ≡ page_start address)
    (there : slice_get pages (slot_of shown address).frame ≡ Some (Some page))
    (is_block : block ≡ address % 4096 / 256)
    (inside : code_place address < length known.pages)
    (pages_known : AreKnownPages known) (are : AreRight shown compared pages (bytes_of_pages known))
  where
    abbrev old : List ℕ
    old = page_bytes_at known (code_place address)

    abbrev now : List ℕ
    now = with_block old block (whole page)

    abbrev after : List (Option (List ℕ))
    after = set (bytes_of_pages known) (code_place address) (Some now)

    size : length old ≡ 4096
    size = bytes-there known (code_place address) pages_known

    here : slice_get after (code_place address) ≡ Some (Some now)
    here = got-set-same (bytes_of_pages known) (code_place address) (Some now)
        (omega (arith, inside, bytes-many known))

    -- the bytes around an offset, in the block or not
    around : (offset : ℕ) → (own : List ℕ) → own ≡ old → AreSameAround offset own (whole page)
        → AreSameAround offset now (whole page)
    around offset own is same i low high within =
        by_place (cases_lt i (256 * block)) (cases_lt i (256 * block + 258))
      where
        elsewhere : (i < 256 * block) ⊎ (256 * block + 258 ≤ i)
            → slice_index now i ≡ slice_index (whole page) i
        elsewhere out = block-beside old block (whole page) i out
            ∙ ap (λ (xs : List ℕ). slice_index xs i) (sym is)
            ∙ same i low high within

        by_place : (i < 256 * block) ⊎ (256 * block ≤ i)
            → (i < 256 * block + 258) ⊎ (256 * block + 258 ≤ i)
            → slice_index now i ≡ slice_index (whole page) i
        by_place (inl h) more = elsewhere (inl h)
        by_place (inr h) (inr more) = elsewhere (inr more)
        by_place (inr h) (inl less) =
            block-byte old block (whole page) i size (length-whole page) h less within

    same_slot : (a : ℕ) → a / 4096 % 64 ≡ address / 4096 % 64
        → slot_of shown a ≡ slot_of shown address
    same_slot a is = ap (λ (k : ℕ). slice_index_or shown k empty_slot) is

    -- where an address's place is this one, its page is
    same_page : (a : ℕ) → a / 4096 % 64 ≡ address / 4096 % 64
        → (slot_of shown a).start ≡ page_start a → a / 4096 ≡ address / 4096
    same_page a is begins =
        let start = ap (λ (s : Slot). s.start) (same_slot a is) in
        omega (arith, start, begins, found)

    -- an address of the block
    in_block : (a : ℕ) → (slot_of shown a).start ≡ page_start a
        → block_place a ≡ block_place address
        → IsRightAt shown pages after a
    in_block a begins place =
        let slot : a / 4096 % 64 ≡ address / 4096 % 64 = omega (arith, place) in
        let number = same_page a slot begins in
        let offset : a % 4096 / 256 ≡ block = omega (arith, place, slot, is_block) in
        record {
          own = now;
          here = ap (λ (k : ℕ). slice_get after (k % 256)) number ∙ here;
          page = page;
          there = ap (λ (s : Slot). slice_get pages s.frame) (same_slot a slot) ∙ there;
          same = λ i low high within.
              block-byte old block (whole page) i size (length-whole page)
              (omega (arith, offset, low)) (omega (arith, offset, high)) within;
        }

    -- any other that has been compared before
    before : (a : ℕ) → a < 2 ^ 32 → IsCompared shown compared a → IsRightAt shown pages after a
    before a small is =
        let right = are a small is in by_place right (eqb_tells (code_place a) (code_place address))
      where
        by_place : IsRightAt shown pages (bytes_of_pages known) a
            → ((eqb (code_place a) (code_place address) ≡ true)
            × (code_place a ≡ code_place address))
            ⊎ ((eqb (code_place a) (code_place address) ≡ false)
            × (code_place a ≢ code_place address))
            → IsRightAt shown pages after a
        by_place right (inr other) = record {
          own = right.own;
          here = got-set-other (bytes_of_pages known) (code_place address) (code_place a) (Some now)
              other.1 ∙ right.here;
          page = right.page;
          there = right.there;
          same = right.same;
        }
        by_place right (inl at) =
            let slot : a / 4096 % 64 ≡ address / 4096 % 64 = omega (arith, at.1) in
            let one : right.page ≡ page = Some-same (Some-same (sym right.there
            ∙ ap (λ (s : Slot). slice_get pages s.frame) (same_slot a slot) ∙ there)) in
            let own : right.own ≡ old = bytes-known known (code_place address) right.own
            (ap (λ (k : ℕ). slice_get (bytes_of_pages known) k) (sym at.1) ∙ right.here) in
            record {
              own = now;
              here = ap (λ (k : ℕ). slice_get after k) at.1 ∙ here;
              page = page;
              there = ap (λ (s : Slot). slice_get pages s.frame) (same_slot a slot) ∙ there;
              same = around (a % 4096) right.own own
                  (subst (λ (p : List ℕ). AreSameAround (a % 4096) right.own (whole p)) one
                  right.same);
            }

    pub right-more : AreRight shown (set compared (block_place address) true) pages after
    right-more a small is = by_place (eqb_tells (block_place a) (block_place address))
      where
        by_place : ((eqb (block_place a) (block_place address) ≡ true)
            × (block_place a ≡ block_place address))
            ⊎ ((eqb (block_place a) (block_place address) ≡ false)
            × (block_place a ≢ block_place address))
            → IsRightAt shown pages after a
        by_place (inl at) = in_block a is.found at.1
        by_place (inr other) = before a small (record {
          found = is.found;
          is = sym (got-set-other compared (block_place address) (block_place a) true other.1)
              ∙ is.is;
        })

-- what is right after a block has been checked
pub right-checked : (shown : List Slot) (compared : List Bool) (pages : List (Option (List ℕ)))
    (known new : Known) (address block place at : ℕ) → address < 2 ^ 32
    → (slot_of shown address).start ≡ page_start address
    → block ≡ address % 4096 / 256 → place ≡ code_place address → at ≡ block_place address
    → AreKnownPages known → IsChecked pages (slot_of shown address).frame known place block new
    → AreRight shown compared pages (bytes_of_pages known)
    → AreRight shown (set compared at true) pages (bytes_of_pages new)
right-checked shown compared pages known new address block place at fits found block_is place_is
    at_is pages_known is are =
    let inside : code_place address < length known.pages =
    subst (λ (k : ℕ). k < length known.pages) place_is is.inside in
    let final : bytes_of_pages new ≡ set (bytes_of_pages known) (code_place address)
    (Some (with_block (page_bytes_at known (code_place address)) block (whole is.page))) =
    is.known
    ∙ ap (λ (k : ℕ). set (bytes_of_pages known) k
    (Some (with_block (page_bytes_at known k) block (whole is.page)))) place_is in
    subst (λ (k : ℕ). AreRight shown (set compared k true) pages (bytes_of_pages new)) (sym at_is)
    (subst (λ (x : List (Option (List ℕ))).
    AreRight shown (set compared (block_place address) true) pages x) (sym final)
    (right-more shown compared pages known address block is.page fits found is.there block_is
    inside pages_known are))

-- ---- a block that is checked

-- by bytes that are the same there
pub same-block : (old bytes other : List ℕ) (block : ℕ) → length old ≡ 4096
    → length bytes ≡ 4096 → length other ≡ 4096
    → AreSameIn (256 * block) (256 * block + 258) bytes other
    → with_block old block bytes ≡ with_block old block other
same-block old bytes other block size full count same =
    block-is old now other block (256 * block + 258) size long count (omega arith) (inl refl)
    (record {
      inside = λ i low high. by_place i low high (cases_lt i 4096);
      outside = λ i out. block-beside old block bytes i out;
    })
  where
    now : List ℕ
    now = with_block old block bytes

    long : length now ≡ 4096
    long = length-written old (256 * block) (take 258 (drop (256 * block) bytes)) ∙ size

    by_place : (i : ℕ) → 256 * block ≤ i → i < 256 * block + 258 → (i < 4096) ⊎ (4096 ≤ i)
        → slice_index now i ≡ slice_index other i
    by_place i low high (inl h) = block-byte old block bytes i size full low high h
        ∙ same i low high
    by_place i low high (inr h) = get_or_past now i 0 (omega (arith, long, h))
        ∙ sym (get_or_past other i 0 (omega (arith, count, h)))

-- what is known of a frame's page after a check, which is `done`, of these bytes
pub checked-by : (pages : List (Option (List ℕ))) (frame : ℕ) (old new : Known) (place block : ℕ)
    (page bytes : List ℕ) (done : Bool) → done ≡ true
    → slice_get pages frame ≡ Some (Some page) → length bytes ≡ 4096
    → AreSameIn (256 * block) (256 * block + 258) bytes (whole page)
    → (done ≡ true → place < length old.pages) → AreKnownPages old
    → bytes_of_pages new ≡ (if done then set (bytes_of_pages old) place
    (Some (with_block (page_bytes_at old place) block bytes)) else bytes_of_pages old)
    → IsChecked pages frame old place block new
checked-by pages frame old new place block page bytes done did there count same inside known is =
    let before = page_bytes_at old place in
    record {
      page = page;
      there = there;
      inside = inside did;
      known = is
          ∙ ap (λ (b : Bool). if b then set (bytes_of_pages old) place
          (Some (with_block before block bytes)) else bytes_of_pages old) did
          ∙ ap (λ (xs : List ℕ). set (bytes_of_pages old) place (Some xs))
          (same-block before bytes (whole page) block (bytes-there old place known) count
          (length-whole page) same);
    }

-- and where they are the page's
pub checked-page : (pages : List (Option (List ℕ))) (frame : ℕ) (old new : Known)
    (place block : ℕ) (page bytes : List ℕ) (done : Bool) → done ≡ true
    → slice_get pages frame ≡ Some (Some page) → length bytes ≡ 4096 → bytes ≡ whole page
    → (done ≡ true → place < length old.pages) → AreKnownPages old
    → bytes_of_pages new ≡ (if done then set (bytes_of_pages old) place
    (Some (with_block (page_bytes_at old place) block bytes)) else bytes_of_pages old)
    → IsChecked pages frame old place block new
checked-page pages frame old new place block page bytes done did there count are inside known is =
    checked-by pages frame old new place block page bytes done did there count
    (λ i low high. ap (λ (xs : List ℕ). slice_index xs i) are) inside known is
