-- What is known of all pages, as one of them changes, and where a walk through the lines leads.
use Rattle.std.proofs.Common.{ℕ, zero, suc, ◌+◌, ◌/◌, ◌%◌, ◌≡◌, ◌≢◌, ◌<◌, ◌≤◌, ◌⊎◌, inl, inr, refl}
use Rattle.std.proofs.Common.{sym, ap, ◌∙◌, subst, Bool, true, false, List, [], ◌∷◌, length, set}
use Rattle.std.proofs.Common.{Option, Some, None, arith, eqb, length-set, map, take, cond}
use Rattle.std.specs.Prelude.{slice_get, replicate, option_map, IfSome, slice_index_or, unwrap_or}
use Rattle.std.specs.Prelude.{if◌then◌else◌}
use Rattle.std.proofs.lemmas.Bool.Decides.{eqb_tells}
use Rattle.code_pages.specs.declared.kind.Kind.TheVariants as kind
use Rattle.code_pages.specs.declared.line.Line.{Line}
use Rattle.code_pages.specs.Codes.{code_size}
use Rattle.code_pages.specs.Kinds.{ends}
use Rattle.code_pages.specs.Lines.{AreRuns, CodePage, start_at, IsFollowed, IsLineAt, IsKnownPage}
use Rattle.code_pages.specs.Lines.{Known, AreKnownPages, IsStartIn, unlearnt, bytes_of_page}
use Rattle.code_pages.specs.Lines.{bytes_of_pages, AreRunsCounted, HaveHomes, IsCodeLine, IsGoing}
use Rattle.code_pages.specs.Lines.{AreStartsFrom, starts_of_slot, start_in, runs_of, page_of_slot}
use Rattle.code_pages.specs.Lines.{with_block, AreLinesKept, AreSameBelow, AreSameBut, slot_at}
use Rattle.dos_world.specs.Bytes.{zero_page}
use Rattle.code_pages.proofs.Lists.{got-within, Some-same, got-set-same, got-set-other, got-of-some}
use Rattle.code_pages.proofs.Lists.{same-got, got-map, none-some, got-replicate, map-set}
use Rattle.code_pages.proofs.Lists.{map-set-same}
use Rattle.code_pages.proofs.LineLaws.{known-kept, known-none, run-same, count-same, counted-same}
use Rattle.code_pages.proofs.LineLaws.{runs-kept, keeps-below}
use Rattle.std.proofs.lemmas.Bool.{cases_lt}

-- ---- where a start leads

-- the line at which the code at an even offset begins is the one of that code
pub line-of-start : (known : Known) (place offset at : ℕ) (page : CodePage) → AreKnownPages known
    → slice_get known.pages place ≡ Some (Some page) → offset % 2 ≡ 0
    → start_at page offset ≡ suc at → IsLineAt known.lines page offset (suc at)
line-of-start known place offset at page are is even start =
    let half : offset / 2 + offset / 2 ≡ offset = omega (arith, even) in
    subst (λ n. IsLineAt known.lines page n (suc at)) half
    ((are.each place page is).each (offset / 2) at
    (got-of-some page.starts (offset / 2) at start))

-- the start in a slot that may be there
abbrev start_of : ℕ → Option (Option CodePage) → ℕ
start_of offset None = 0
start_of offset (Some slot) = start_in slot offset

-- a start that isn't 0 is one of the lines
pub start-known : (known : Known) (place offset at : ℕ) → AreKnownPages known
    → start_in (slot_at known place) offset ≡ at → 0 < at → at < length known.lines
start-known known place offset at are start some =
    by_slot (slice_get known.pages place) refl
  where
    in_slot : (pages : List (Option CodePage)) (i : ℕ) (o : Option (Option CodePage))
        → slice_get pages i ≡ o → start_in (slice_index_or pages i None) offset
        ≡ start_of offset o
    in_slot [] i o e = ap (start_of offset) e
    in_slot (x ∷ xs) zero o e = ap (start_of offset) e
    in_slot (x ∷ xs) (suc i) o e = in_slot xs i o e

    by_page : (page : CodePage) → slice_get known.pages place ≡ Some (Some page) → (n : ℕ)
        → start_at page offset ≡ n → n ≡ at → at < length known.lines
    by_page page is zero e f = absurd (omega (arith, f, some))
    by_page page is (suc n) e f =
        let l = (are.each place page is).each (offset / 2) n
        (got-of-some page.starts (offset / 2) n e) in
        let within = got-within known.lines l.line (suc n) l.is in omega (arith, within, f)

    by_slot : (o : Option (Option CodePage)) → slice_get known.pages place ≡ o
        → at < length known.lines
    by_slot None e =
        let z = sym (in_slot known.pages place None e) ∙ start in absurd (omega (arith, z, some))
    by_slot (Some None) e =
        let z = sym (in_slot known.pages place (Some None) e) ∙ start in
        absurd (omega (arith, z, some))
    by_slot (Some (Some page)) e =
        by_page page e (start_at page offset) refl
        (sym (in_slot known.pages place (Some (Some page)) e) ∙ start)

-- ---- a walk through the lines

-- a line that goes on isn't stale
pub live-line : (line : Line) → ends line.kind ≡ false → 0 < line.size
live-line line goes = by_size line.size refl
  where
    not-end : line.kind ≡ kind.End → ⊥
    not-end is = let e = sym goes ∙ ap ends is in cc

    by_size : (n : ℕ) → line.size ≡ n → 0 < line.size
    by_size zero e = absurd (not-end (line.sized e))
    by_size (suc n) e = omega (arith, e)

-- What stands behind a line that is known: a line that is one of the code behind its code, in the
-- same block, or an end. Fewer lines stand behind it.
pub record IsNextLine (all : Known) (page : CodePage) (at : ℕ) (line : Line) : Type 0 where
  pub next : Line
  pub is : slice_get all.lines (suc at) ≡ Some next
  pub offset : next.offset ≡ line.offset + line.size
  pub run : next.run < line.run
  pub known : (next.kind ≡ kind.End) ⊎ ((start_at page next.offset ≡ suc at)
      × (next.offset / 256 ≡ line.offset / 256)
      × IsLineAt all.lines page (line.offset + line.size) (suc at))

-- Where a loop stands at the line of a code of a page, at which no run ends, the next line is the
-- one of the code behind it, or an end.
pub next-line : (known : Known) (place offset at : ℕ) (page : CodePage) (line : Line)
    → AreKnownPages known → slice_get known.pages place ≡ Some (Some page) → offset % 2 ≡ 0
    → IsLineAt known.lines page offset at → slice_get known.lines at ≡ Some line
    → ends line.kind ≡ false → IsNextLine known page at line
next-line known place offset at page line are is even l here goes =
    let same : l.line ≡ line = Some-same (sym l.is ∙ here) in
    let f = subst (λ (x : Line). IsFollowed known.lines page at x) same
    (l.followed (inl (ap (λ (x : Line). ends x.kind) same ∙ goes))) in
    let k = subst (λ (x : Line). IsCodeLine known.lines page.bytes at x) same
    (l.knows (subst (λ (x : Line). 0 < x.size) (sym same) (live-line line goes))) in
    let b = k.goes goes in
    let n = are.runs at line here goes in
    let behind : b.next ≡ f.next = Some-same (sym b.is ∙ f.is) in
    let one : n.next ≡ f.next = Some-same (sym n.is ∙ f.is) in
    let to : f.next.offset ≡ line.offset + line.size =
    ap (λ (x : Line). x.offset) (sym behind) ∙ b.offset_is in
    let at_even : f.next.offset % 2 ≡ 0 =
    even-next line.offset line.size f.next.offset k.code
    (ap (λ n. n % 2) (ap (λ (x : Line). x.offset) (sym same) ∙ l.there) ∙ even) k.size to in
    record {
      next = f.next;
      is = f.is;
      offset = to;
      run = subst (λ (x : Line). x.run < line.run) one n.run;
      known = by_begins f to at_even f.begins;
    }
  where
    even-next : (o s n code : ℕ) → o % 2 ≡ 0 → s ≡ code_size code → n ≡ o + s → n % 2 ≡ 0
    even-next o s n code e size sum = by_test (eqb (code % 4) 3) size
      where
        by_test : (b : Bool) → s ≡ cond b 4 2 → n % 2 ≡ 0
        by_test true h = omega (arith, e, h, sum)
        by_test false h = omega (arith, e, h, sum)

    by_begins : (f : IsFollowed known.lines page at line)
        → f.next.offset ≡ line.offset + line.size → f.next.offset % 2 ≡ 0
        → (f.next.kind ≡ kind.End) ⊎ (start_at page f.next.offset ≡ suc at)
        → (f.next.kind ≡ kind.End) ⊎ ((start_at page f.next.offset ≡ suc at)
        × (f.next.offset / 256 ≡ line.offset / 256)
        × IsLineAt known.lines page (line.offset + line.size) (suc at))
    by_begins f to e (inl h) = inl h
    by_begins f to e (inr h) = inr (
      h,
      f.block h,
      subst (λ n. IsLineAt known.lines page n (suc at)) to
          (line-of-start known place f.next.offset at page are is e h),
    )

-- ---- one page that changes

pub slot-known : (known : Known) (place : ℕ) (slot : Option CodePage) → AreKnownPages known
    → slice_get known.pages place ≡ Some slot → IfSome slot (λ page. IsKnownPage known.lines page)
slot-known known place None are is = tt
slot-known known place (Some page) are is = are.each place page is

known-of-slot : (lines : List Line) (slot : Option CodePage) (page : CodePage)
    → IfSome slot (λ page. IsKnownPage lines page) → slot ≡ Some page → IsKnownPage lines page
known-of-slot lines None page h e = absurd (none-some e)
known-of-slot lines (Some other) page h e =
    subst (λ (p : CodePage). IsKnownPage lines p) (Some-same e) h

-- The line at this place counts lines behind it.
pub record CountsAt (lines : List Line) (at : ℕ) : Type 0 where
  pub line : Line
  pub is : slice_get lines at ≡ Some line
  pub run : 0 < line.run

-- One page changes, and the lines with it.
module _ (known : Known) (place : ℕ) (old slot : Option CodePage) (lines : List Line)
    (are : AreKnownPages known) (is : slice_get known.pages place ≡ Some old)
    (from : AreStartsFrom (length known.lines) (starts_of_slot old) (starts_of_slot slot))
    (counting : (at : ℕ) (line : Line) → slice_get lines at ≡ Some line → 0 < line.run
    → (length known.lines ≤ at) ⊎ CountsAt known.lines at) where
  there : place < length known.pages
  there = got-within known.pages old place is

  abbrev pick : (n : ℕ) → (n < length known.lines) ⊎ (length known.lines ≤ n) → ℕ
  pick n (inl h) = let h = are.homes in h.home n
  pick n (inr h) = place

  abbrev home : ℕ → ℕ
  home n = pick n (cases_lt n (length known.lines))

  old-home : (n : ℕ) → n < length known.lines → home n ≡ (let h = are.homes in h.home n)
  old-home n h = by_case (cases_lt n (length known.lines))
    where
      by_case : (d : (n < length known.lines) ⊎ (length known.lines ≤ n))
          → pick n d ≡ (let h = are.homes in h.home n)
      by_case (inl g) = refl
      by_case (inr g) = absurd (omega (arith, g, h))

  new-home : (n : ℕ) → length known.lines ≤ n → home n ≡ place
  new-home n h = by_case (cases_lt n (length known.lines))
    where
      by_case : (d : (n < length known.lines) ⊎ (length known.lines ≤ n)) → pick n d ≡ place
      by_case (inl g) = absurd (omega (arith, g, h))
      by_case (inr g) = refl

  at-home : (n : ℕ) → (let h = are.homes in h.home n) ≡ place → home n ≡ place
  at-home n e = by_case (cases_lt n (length known.lines))
    where
      by_case : (d : (n < length known.lines) ⊎ (length known.lines ≤ n)) → pick n d ≡ place
      by_case (inl g) = e
      by_case (inr g) = refl

  -- a start of the page before
  started : (half at : ℕ) → slice_get (starts_of_slot old) half ≡ Some (suc at)
      → home (suc at) ≡ place
  started half at e = by_old old refl e
    where
      by_old : (o : Option CodePage) → old ≡ o → slice_get (starts_of_slot o) half ≡ Some (suc at)
          → home (suc at) ≡ place
      by_old None f g = cc
      by_old (Some page) f g =
          at-home (suc at) (let h = are.homes in h.starts place half at page (is ∙ ap Some f) g)

  home-starts : (p half at : ℕ) (page : CodePage)
      → slice_get (set known.pages place slot) p ≡ Some (Some page)
      → slice_get page.starts half ≡ Some (suc at) → home (suc at) ≡ p
  home-starts p half at page got e = by_test (eqb_tells p place)
    where
      by_from : (slice_get (starts_of_slot old) half ≡ Some (suc at))
          ⊎ (length known.lines ≤ suc at)
          → home (suc at) ≡ place
      by_from (inl f) = started half at f
      by_from (inr f) = new-home (suc at) f

      by_test : ((eqb p place ≡ true) × (p ≡ place)) ⊎ ((eqb p place ≡ false) × (p ≢ place))
          → home (suc at) ≡ p
      by_test (inl q) =
          let same : slot ≡ Some page = Some-same (sym (got-set-same known.pages place slot there)
          ∙ ap (slice_get (set known.pages place slot)) (sym q.1) ∙ got) in
          by_from (from half at (ap (λ (o : Option CodePage). slice_get
          (starts_of_slot o) half) same
          ∙ e)) ∙ sym q.1
      by_test (inr q) =
          let was = sym (got-set-other known.pages place p slot q.1) ∙ got in
          let l = (are.each p page was).each half at e in
          old-home (suc at) (got-within known.lines l.line (suc at) l.is)
          ∙ (let h = are.homes in h.starts p half at page was e)

  pub homes-set : HaveHomes lines (set known.pages place slot)
  homes-set = record {
    home = home;
    starts = home-starts;
    runs = λ at line got run. by_counting at (counting at line got run);
  }
    where
      by_counting : (at : ℕ) → (length known.lines ≤ at) ⊎ CountsAt known.lines at
          → home (suc at) ≡ home at
      by_counting at (inl h) = new-home (suc at) (omega (arith, h)) ∙ sym (new-home at h)
      by_counting at (inr c) =
          let n = are.counted at c.line c.is c.run in
          let within = got-within known.lines n.next (suc at) n.is in
          old-home (suc at) within ∙ (let h = are.homes in h.runs at c.line c.is c.run)
          ∙ sym (old-home at (omega (arith, within)))

  pub known-set : ((other : ℕ) (page : CodePage) → other ≢ place
      → slice_get known.pages other ≡ Some (Some page) → IsKnownPage lines page)
      → IfSome slot (λ page. IsKnownPage lines page)
      → AreRuns lines → AreRunsCounted lines → slice_get lines 0 ≡ slice_get known.lines 0
      → length known.lines ≤ length lines → length lines ≤ 16384
      → AreKnownPages (record { lines = lines; pages = set known.pages place slot })
  known-set others slot_is runs counted first more few = record {
    each = λ other page got. by_test other page got (eqb_tells other place);
    runs = runs;
    counted = counted;
    homes = homes-set;
    first = λ line got. are.first line (sym first ∙ got);
    few = few;
    places = places are.places;
  }
    where
      by_test : (other : ℕ) (page : CodePage)
          → slice_get (set known.pages place slot) other ≡ Some (Some page)
          → ((eqb other place ≡ true) × (other ≡ place))
          ⊎ ((eqb other place ≡ false) × (other ≢ place)) → IsKnownPage lines page
      by_test other page got (inl p) =
          known-of-slot lines slot page slot_is (Some-same (sym (got-set-same known.pages place slot
          there) ∙ ap (slice_get (set known.pages place slot)) (sym p.1) ∙ got))
      by_test other page got (inr p) =
          others other page p.1 (sym (got-set-other known.pages place other slot p.1) ∙ got)

      places : (length known.pages ≡ 0)
          ⊎ ((length known.pages ≡ 256) × (0 < length known.lines))
          → (length (set known.pages place slot) ≡ 0)
          ⊎ ((length (set known.pages place slot) ≡ 256) × (0 < length lines))
      places (inl e) = absurd (omega (arith, e, there))
      places (inr p) =
          inr (length-set known.pages place slot ∙ p.0, omega (arith, p.1, more))

-- lines that count the same
counts-same : (old new : List Line) → runs_of new ≡ runs_of old → (at : ℕ) (line : Line)
    → slice_get new at ≡ Some line → 0 < line.run → (length old ≤ at) ⊎ CountsAt old at
counts-same old new same at line got run =
    let o = run-same old new at line same got in
    inr (record { line = o.line; is = o.is; run = subst (λ n. 0 < n) (sym o.run_is) run })

-- a page whose block was checked
pub known-checked : (known : Known) (place : ℕ) (old slot : Option CodePage) (lines : List Line)
    → AreKnownPages known → slice_get known.pages place ≡ Some old
    → ((n : ℕ) → AreStartsFrom n (starts_of_slot old) (starts_of_slot slot))
    → AreLinesKept known.lines lines → IfSome slot (λ page. IsKnownPage lines page)
    → AreKnownPages (record { lines = lines; pages = set known.pages place slot })
known-checked known place old slot lines are is from kept slot_is =
    let count = count-same known.lines lines kept.runs in
    let few = are.few in
    known-set known place old slot lines are is (from (length known.lines))
    (counts-same known.lines lines kept.runs)
    (λ other page differs got. known-kept known.lines lines page kept.keeps
    (are.each other page got)) slot_is (runs-kept known.lines lines kept are.runs are.counted)
    (counted-same known.lines lines kept.runs are.counted) kept.first (omega (arith, count))
    (omega (arith, count, few))

-- a page of which a run was learnt
pub known-learnt : (known : Known) (place : ℕ) (old slot : Option CodePage) (lines : List Line)
    → AreKnownPages known → slice_get known.pages place ≡ Some old
    → AreStartsFrom (length known.lines) (starts_of_slot old) (starts_of_slot slot)
    → AreSameBelow (length known.lines) known.lines lines → AreRuns lines → AreRunsCounted lines
    → 0 < length known.lines → length known.lines ≤ length lines → length lines ≤ 16384
    → IfSome slot (λ page. IsKnownPage lines page)
    → AreKnownPages (record { lines = lines; pages = set known.pages place slot })
known-learnt known place old slot lines are is from below runs counted some more few slot_is =
    known-set known place old slot lines are is from
    (λ at line got run. by_place at line got run (cases_lt at (length known.lines)))
    (λ other page differs got. known-kept known.lines lines page
    (keeps-below (length known.lines) known.lines lines (omega arith) below)
    (are.each other page got)) slot_is runs counted (below 0 some) more few
  where
    by_place : (at : ℕ) (line : Line) → slice_get lines at ≡ Some line → 0 < line.run
        → (at < length known.lines) ⊎ (length known.lines ≤ at)
        → (length known.lines ≤ at) ⊎ CountsAt known.lines at
    by_place at line got run (inl h) =
        inr (record { line = line; is = sym (below at h) ∙ got; run = run })
    by_place at line got run (inr h) = inl h

-- a page other than the one at whose line alone something changed
known-apart : (known : Known) (place at other : ℕ) (lines : List Line) (page : CodePage)
    → (are : AreKnownPages known) → (let h = are.homes in h.home at) ≡ place
    → AreSameBut at known.lines lines → other ≢ place
    → slice_get known.pages other ≡ Some (Some page) → IsKnownPage lines page
known-apart known place at other lines page are home_is same differs got =
    let k = are.each other page got in record {
      bytes = k.bytes;
      starts = k.starts;
      each = λ half n start. line_of half n start (k.each half n start);
    }
  where
    apart : (n : ℕ) → (let h = are.homes in h.home n) ≡ other → n ≢ at
    apart n e f =
        differs (sym e ∙ ap (λ (i : ℕ). let h = are.homes in h.home i) f ∙ home_is)

    counts : (n : ℕ) (line : Line) → slice_get known.lines n ≡ Some line → IsGoing line
        → 0 < line.run
    counts n line is (inl g) =
        let x = are.runs n line is g in let less = x.run in omega (arith, less)
    counts n line is (inr r) = r

    line_of : (half n : ℕ) → slice_get page.starts half ≡ Some (suc n)
        → IsLineAt known.lines page (half + half) (suc n)
        → IsLineAt lines page (half + half) (suc n)
    line_of half n start l =
        let here : (let h = are.homes in h.home (suc n)) ≡ other =
        (let h = are.homes in h.starts other half n page got start) in
        record {
          line = l.line;
          is = same (suc n) (apart (suc n) here) ∙ l.is;
          there = l.there;
          knows = λ live.
              let c = l.knows live in record {
                code = c.code;
                stands = c.stands;
                form = c.form;
                size = c.size;
                goes = λ g.
                    let b = c.goes g in record {
                      next = b.next;
                      is = same (suc (suc n)) (behind here (inl g)) ∙ b.is;
                      offset_is = b.offset_is;
                    };
              };
          followed = λ g.
              let f = l.followed g in record {
                next = f.next;
                is = same (suc (suc n)) (behind here g) ∙ f.is;
                begins = f.begins;
                block = f.block;
              };
        }
      where
        behind : (let h = are.homes in h.home (suc n)) ≡ other → IsGoing l.line → suc (suc n) ≢ at
        behind here g =
            apart (suc (suc n)) ((let h = are.homes in h.runs (suc n) l.line l.is
            (counts (suc n) l.line l.is g)) ∙ here)

-- a page of which a stale line was learnt again
pub known-relearnt : (known : Known) (place offset at : ℕ) (old slot : Option CodePage)
    (lines : List Line) → AreKnownPages known → slice_get known.pages place ≡ Some old
    → start_in old offset ≡ at → 0 < at
    → ((n : ℕ) → AreStartsFrom n (starts_of_slot old) (starts_of_slot slot))
    → runs_of lines ≡ runs_of known.lines → AreSameBut at known.lines lines → AreRuns lines
    → IfSome slot (λ page. IsKnownPage lines page)
    → AreKnownPages (record { lines = lines; pages = set known.pages place slot })
known-relearnt known place offset at old slot lines are is start later from counts same runs page =
    let count = count-same known.lines lines counts in
    let few = are.few in
    known-set known place old slot lines are is (from (length known.lines))
    (counts-same known.lines lines counts)
    (λ other page differs got. known-apart known place at other lines page are
    (home-at old is start) same differs got) page runs
    (counted-same known.lines lines counts are.counted)
    (same 0 (λ e. omega (arith, e, later))) (omega (arith, count)) (omega (arith, count, few))
  where
    by_at : (n : ℕ) (page : CodePage) → slice_get known.pages place ≡ Some (Some page)
        → start_at page offset ≡ n → n ≡ at → (let h = are.homes in h.home at) ≡ place
    by_at zero page got e f = absurd (omega (arith, f, later))
    by_at (suc n) page got e f =
        ap (λ (i : ℕ). let h = are.homes in h.home i) (sym f)
        ∙ (let h = are.homes in h.starts place (offset / 2) n page got
        (got-of-some page.starts (offset / 2) n e))

    home-at : (o : Option CodePage) → slice_get known.pages place ≡ Some o → start_in o offset ≡ at
        → (let h = are.homes in h.home at) ≡ place
    home-at None got e = absurd (omega (arith, e, later))
    home-at (Some page) got e = by_at (start_at page offset) page got refl e

-- where there is a place there are lines
pub some-lines : (known : Known) (place : ℕ) → AreKnownPages known → place < length known.pages
    → 0 < length known.lines
some-lines known place are there = by_places are.places
  where
    by_places : (length known.pages ≡ 0)
        ⊎ ((length known.pages ≡ 256) × (0 < length known.lines)) → 0 < length known.lines
    by_places (inl e) = absurd (omega (arith, e, there))
    by_places (inr p) = p.1

-- ---- all pages without lines

-- one line, which is an end, and pages of which nothing is known
pub known-first : (line : Line) (pages : List (Option CodePage)) → line.kind ≡ kind.End
    → line.run ≡ 0
    → ((place half at : ℕ) (page : CodePage) → slice_get pages place ≡ Some (Some page)
    → slice_get page.starts half ≡ Some (suc at) → ⊥)
    → ((place : ℕ) (page : CodePage) → slice_get pages place ≡ Some (Some page)
    → IsKnownPage (line ∷ []) page)
    → (length pages ≡ 0) ⊎ (length pages ≡ 256)
    → AreKnownPages (record { lines = line ∷ []; pages = pages })
known-first line pages end run none each count = record {
  each = each;
  runs = runs;
  counted = counted;
  homes = record {
    home = λ n. 0;
    starts = λ place half at page got start. absurd (none place half at page got start);
    runs = λ at other got some. refl;
  };
  first = λ other got. (
    ap (λ (l : Line). l.kind) (sym (Some-same got)) ∙ end,
    ap (λ (l : Line). l.run) (sym (Some-same got)) ∙ run,
  );
  few = omega arith;
  places = by_count count;
}
  where
    runs : AreRuns (line ∷ [])
    runs zero other got goes =
        let e = ap (λ (l : Line). ends l.kind) (sym (Some-same got)) ∙ ap ends end in
        absurd (true-not e goes)
      where
        true-not : {b : Bool} → b ≡ true → b ≡ false → ⊥
        true-not e f = cc
    runs (suc at) other got goes = cc

    counted : AreRunsCounted (line ∷ [])
    counted zero other got some =
        let e = ap (λ (l : Line). l.run) (sym (Some-same got)) ∙ run in
        absurd (omega (arith, e, some))
    counted (suc at) other got some = cc

    by_count : (length pages ≡ 0) ⊎ (length pages ≡ 256)
        → (length pages ≡ 0) ⊎ ((length pages ≡ 256) × (0 < 1))
    by_count (inl e) = inl e
    by_count (inr e) = inr (e, omega arith)

module _ (known : Known) (pages : List (Option CodePage))
    (same : (place : ℕ) → slice_get pages place
    ≡ option_map (λ slot. option_map unlearnt slot) (slice_get known.pages place)) where
  pub forgotten-bytes : map bytes_of_page pages ≡ bytes_of_pages known
  forgotten-bytes = same-got (map bytes_of_page pages) (map bytes_of_page known.pages) (λ i.
      got-map bytes_of_page pages i ∙ ap (option_map bytes_of_page) (same i)
      ∙ by_slot (slice_get known.pages i) ∙ sym (got-map bytes_of_page known.pages i))
    where
      by_slot : (o : Option (Option CodePage))
          → option_map bytes_of_page (option_map (λ slot. option_map unlearnt slot) o)
          ≡ option_map bytes_of_page o
      by_slot None = refl
      by_slot (Some None) = refl
      by_slot (Some (Some page)) = refl

  known-each : (lines : List Line) (place : ℕ) (page : CodePage) → AreKnownPages known
      → slice_get pages place ≡ Some (Some page) → IsKnownPage lines page
  known-each lines place page are got =
      by_slot (slice_get known.pages place) refl (sym (same place) ∙ got)
    where
      by_slot : (o : Option (Option CodePage)) → slice_get known.pages place ≡ o
          → option_map (λ slot. option_map unlearnt slot) o ≡ Some (Some page)
          → IsKnownPage lines page
      by_slot None e h = absurd (none-some h)
      by_slot (Some None) e h = absurd (none-some (Some-same h))
      by_slot (Some (Some old)) e h =
          subst (λ (p : CodePage). IsKnownPage lines p) (Some-same (Some-same h))
          (known-none lines old.bytes (let k = are.each place old e in k.bytes))

  no-start : (place half at : ℕ) (page : CodePage) → slice_get pages place ≡ Some (Some page)
      → slice_get page.starts half ≡ Some (suc at) → ⊥
  no-start place half at page got start =
      by_slot (slice_get known.pages place) (sym (same place) ∙ got)
    where
      never : (n i : ℕ) → slice_get (replicate n 0) i ≡ Some (suc at) → ⊥
      never n i h = let e = got-replicate n i 0 (suc at) h in omega (arith, e)

      by_slot : (o : Option (Option CodePage))
          → option_map (λ slot. option_map unlearnt slot) o ≡ Some (Some page) → ⊥
      by_slot None h = none-some h
      by_slot (Some None) h = none-some (Some-same h)
      by_slot (Some (Some old)) h =
          never 2048 half (ap (λ (p : CodePage). slice_get p.starts half) (Some-same (Some-same h))
          ∙ start)

  -- what was no start still isn't
  pub unknown-forgotten : (place offset : ℕ) → start_in (slice_index_or pages place None) offset ≡ 0
  unknown-forgotten place offset = by_slot (slice_get pages place) refl
    where
      in_slot : (ps : List (Option CodePage)) (i : ℕ) → start_in (slice_index_or ps i None) offset
          ≡ start_of offset (slice_get ps i)
      in_slot [] i = refl
      in_slot (x ∷ xs) zero = refl
      in_slot (x ∷ xs) (suc i) = in_slot xs i

      by_at : (page : CodePage) → slice_get pages place ≡ Some (Some page) → (n : ℕ)
          → start_at page offset ≡ n → n ≡ 0
      by_at page got zero e = refl
      by_at page got (suc n) e =
          absurd (no-start place (offset / 2) n page got (got-of-some page.starts (offset / 2) n e))

      by_slot : (o : Option (Option CodePage)) → slice_get pages place ≡ o
          → start_in (slice_index_or pages place None) offset ≡ 0
      by_slot None e = in_slot pages place ∙ ap (start_of offset) e
      by_slot (Some None) e = in_slot pages place ∙ ap (start_of offset) e
      by_slot (Some (Some page)) e =
          in_slot pages place ∙ ap (start_of offset) e ∙ by_at page e (start_at page offset) refl

  pub known-forgotten : (lines : List Line) → AreKnownPages known → lines ≡ take 1 known.lines
      → 0 < length known.lines → length pages ≡ length known.pages
      → AreKnownPages (record { lines = lines; pages = pages })
  known-forgotten lines are is some count =
      by_lines known.lines refl some
    where
      by_count : (length known.pages ≡ 0)
          ⊎ ((length known.pages ≡ 256) × (0 < length known.lines))
          → (length pages ≡ 0) ⊎ (length pages ≡ 256)
      by_count (inl e) = inl (count ∙ e)
      by_count (inr p) = inr (count ∙ p.0)

      by_lines : (old : List Line) → known.lines ≡ old → 0 < length old
          → AreKnownPages (record { lines = lines; pages = pages })
      by_lines [] e h = absurd (omega (arith, h))
      by_lines (line ∷ old) e h =
          subst (λ (ls : List Line). AreKnownPages (record { lines = ls; pages = pages }))
          (sym (is ∙ ap (take 1) e))
          (let f = are.first line (ap (λ ls. slice_get ls 0) e) in
          known-first line pages f.0 f.1 no-start
          (λ place page got. known-each (line ∷ []) place page are got) (by_count are.places))

-- a slot's start as one of all pages
pub slot-start : (known : Known) (place offset at : ℕ) (slot : Option CodePage)
    → slice_get known.pages place ≡ Some slot → (at ≡ 0) ⊎ (start_in slot offset ≡ at)
    → (at ≡ 0) ⊎ IsStartIn known place offset at
slot-start known place offset at slot is (inl e) = inl e
slot-start known place offset at None is (inr e) = inl (sym e)
slot-start known place offset at (Some page) is (inr e) =
    inr (record { page = page; is = is; begins = e })

-- the slot at a place, as the page's bytes
pub bytes-at : (pages : List (Option CodePage)) (place : ℕ) (slot : Option CodePage)
    → slice_get pages place ≡ Some slot
    → slice_index_or (map bytes_of_page pages) place None ≡ bytes_of_page slot
bytes-at [] place slot h = cc
bytes-at (x ∷ xs) zero slot h = ap bytes_of_page (Some-same h)
bytes-at (x ∷ xs) (suc i) slot h = bytes-at xs i slot h

-- no page at any place
pub no-pages : (line : Line) (pages : List (Option CodePage)) → line.kind ≡ kind.End
    → line.run ≡ 0 → pages ≡ replicate 256 None
    → AreKnownPages (record { lines = line ∷ []; pages = pages })
no-pages line pages end run is =
    known-first line pages end run
    (λ place half at page got start. none-some (got-replicate 256 place None (Some page)
    (ap (λ ps. slice_get ps place) (sym is) ∙ got)))
    (λ place page got. absurd (none-some (got-replicate 256 place None (Some page)
    (ap (λ ps. slice_get ps place) (sym is) ∙ got)))) (inr (ap length is))

-- no page, no place and no line
pub known-empty : AreKnownPages (record { lines = []; pages = [] })
known-empty = record {
  each = λ place page got. cc;
  runs = λ at line got goes. cc;
  counted = λ at line got some. cc;
  homes = record {
    home = λ n. 0;
    starts = λ place half at page got start. cc;
    runs = λ at line got some. refl;
  };
  first = λ line got. cc;
  few = omega arith;
  places = inl refl;
}

-- ---- the page in a slot

length-zeros : length zero_page ≡ 4096
unfolding zero_page
length-zeros = refl

-- zeros where no page was
pub slot-page-none : (slot : Option CodePage) (page : CodePage)
    → ((other : CodePage) → slot ≡ Some other → ⊥)
    → page ≡ record { bytes = replicate 4096 0; starts = replicate 2048 0 }
    → ◌≡◌ {A = Option CodePage} (Some page) (Some (page_of_slot slot))
unfolding zero_page
slot-page-none None page none is = ap Some is
slot-page-none (Some other) page none is = absurd (none other refl)

pub slot-page-known : (lines : List Line) (slot : Option CodePage)
    → IfSome slot (λ page. IsKnownPage lines page) → IsKnownPage lines (page_of_slot slot)
slot-page-known lines None h = known-none lines zero_page length-zeros
slot-page-known lines (Some page) h = h

pub slot-page-bytes : (slot : Option CodePage)
    → (page_of_slot slot).bytes ≡ unwrap_or (bytes_of_page slot) zero_page
slot-page-bytes None = refl
slot-page-bytes (Some page) = refl

pub slot-page-starts : (n : ℕ) (slot : Option CodePage)
    → AreStartsFrom n (starts_of_slot slot) (page_of_slot slot).starts
slot-page-starts n None half at got =
    let e = got-replicate 2048 half 0 (suc at) got in absurd (omega (arith, e))
slot-page-starts n (Some page) half at got = inl got

-- the slot that stands at a place
pub slot-got : (pages : List (Option CodePage)) (place : ℕ) (slot : Option CodePage)
    → slice_get pages place ≡ Some slot → slice_index_or pages place None ≡ slot
slot-got [] place slot h = cc
slot-got (x ∷ xs) zero slot h = Some-same h
slot-got (x ∷ xs) (suc i) slot h = slot-got xs i slot h

pub start-there : (known : Known) (place offset at : ℕ) (slot : Option CodePage)
    → slice_get known.pages place ≡ Some slot → start_in slot offset ≡ at → 0 < at
    → IsStartIn known place offset at
start-there known place offset at None is e some = absurd (omega (arith, e, some))
start-there known place offset at (Some page) is e some =
    record { page = page; is = is; begins = e }

-- the bytes of all pages, where a block of one is checked or not
pub checked-bytes : (pages : List (Option CodePage)) (place : ℕ) (old slot : Option CodePage)
    (block : ℕ) (bytes : List ℕ) (done : Bool) → slice_get pages place ≡ Some old
    → (done ≡ true → bytes_of_page slot
    ≡ Some (with_block (unwrap_or (bytes_of_page old) zero_page) block bytes))
    → (done ≡ false → slot ≡ old)
    → map bytes_of_page (set pages place slot) ≡ (if done
    then set (map bytes_of_page pages) place (Some (with_block
    (unwrap_or (slice_index_or (map bytes_of_page pages) place None) zero_page) block bytes))
    else map bytes_of_page pages)
checked-bytes pages place old slot block bytes true is shown same =
    map-set bytes_of_page pages place slot
    ∙ ap (set (map bytes_of_page pages) place) (shown refl
    ∙ ap (λ (o : Option (List ℕ)). Some (with_block (unwrap_or o zero_page) block bytes))
    (sym (bytes-at pages place old is)))
checked-bytes pages place old slot block bytes false is shown same =
    map-set-same bytes_of_page pages place old slot is (ap bytes_of_page (same refl))

-- where a code begins there is a place
pub start-place : (pages : List (Option CodePage)) (place offset at : ℕ)
    → start_in (slice_index_or pages place None) offset ≡ at → 0 < at → place < length pages
start-place [] place offset at e some = absurd (omega (arith, e, some))
start-place (x ∷ xs) zero offset at e some = omega arith
start-place (x ∷ xs) (suc i) offset at e some =
    let r = start-place xs i offset at e some in omega (arith, r)
