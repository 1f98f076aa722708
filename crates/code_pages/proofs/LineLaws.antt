-- Lines that change, and what stays known of a page then.
use Rattle.std.proofs.Common.{ℕ, zero, suc, ◌+◌, ◌-◌, ◌*◌, ◌/◌, ◌%◌, ◌≡◌, ◌≢◌, ◌<◌, ◌≤◌, ◌⊎◌, inl}
use Rattle.std.proofs.Common.{inr, refl, sym, ap, ◌∙◌, subst, Bool, true, false, List, [], ◌∷◌}
use Rattle.std.proofs.Common.{◌++◌, length, set, Option, Some, None, arith, eqb, length-set, cond}
use Rattle.std.proofs.Common.{length-append}
use Rattle.std.proofs.lemmas.List.{length-map, get_or-set_other}
use Rattle.std.specs.Prelude.{slice_get, slice_index, replicate, option_map}
use Rattle.std.proofs.lemmas.Bool.Decides.{eqb_tells}
use Rattle.std.proofs.lemmas.Grind.{get_or-set_at}
use Rattle.std.proofs.lemmas.Bool.{cases_lt}
use Rattle.dos_world.specs.Bytes.{number_of}
use Rattle.rv_form.specs.Forms.{IsFormOf}
use Rattle.code_pages.specs.declared.kind.Kind.{Kind}
use Rattle.code_pages.specs.declared.kind.Kind.TheVariants as kind
use Rattle.code_pages.specs.declared.line.Line.{Line}
use Rattle.code_pages.specs.Codes.{IsCodeIn, code_size}
use Rattle.code_pages.specs.Kinds.{ends}
use Rattle.code_pages.specs.Lines.{HasNextLine, AreRuns, CodePage, start_at, IsFollowed, IsLineAt}
use Rattle.code_pages.specs.Lines.{IsKnownPage, StaysLine, KeepsLines, AreSameBelow, IsStaleAt}
use Rattle.code_pages.specs.Lines.{AreLinesKept, IsMarked, LastEnds, AreRunsCountedFrom}
use Rattle.code_pages.specs.Lines.{AreRunsCounted, runs_of, IsBehind, IsCodeLine, IsGoing}
use Rattle.code_pages.specs.Lines.{IsSameOrStale, IsSameCode, AreSameCodes, IsUnlearnt}
use Rattle.code_pages.specs.Lines.{AreFreshFrom, AreStartsFrom, IsLiveAt}
use Rattle.code_pages.proofs.Lists.{got-within, Some-same, got-set-same, got-set-other, got-append}
use Rattle.code_pages.proofs.Lists.{got-last, got-map, map-set-same, none-within, index-of-got}
use Rattle.code_pages.proofs.Lists.{got-of-some, cut-set-past, cut-set-before}

-- The line behind this place is an end at this offset.
pub record IsMarkedBehind (lines : List Line) (at to : ℕ) : Type 0 where
  pub line : Line
  pub is : slice_get lines (suc at) ≡ Some line
  pub kind : line.kind ≡ kind.End
  pub offset : line.offset ≡ to

-- ---- lines

goes-not : {k : Kind} → k ≡ kind.End → ends k ≡ false → ⊥
goes-not is goes = let e = ap ends is in cc

stays-same : (lines : List Line) (at : ℕ) (line : Line) → slice_get lines at ≡ Some line
    → StaysLine lines at line
stays-same lines at line is = record {
  now = line;
  is = is;
  offset = refl;
  run = refl;
  same = inr (refl, refl, refl);
}

pub keeps-all : (lines : List Line) → KeepsLines lines lines
keeps-all lines at line is = stays-same lines at line is

pub keeps-then : (a b c : List Line) → KeepsLines a b → KeepsLines b c → KeepsLines a c
keeps-then a b c f g at line is =
    let x = f at line is in
    let y = g at x.now x.is in record {
      now = y.now;
      is = y.is;
      offset = y.offset ∙ x.offset;
      run = y.run ∙ x.run;
      same = by_same y.now x.now y.same x.same;
    }
  where
    by_same : (now mid : Line) → IsSameOrStale now mid → IsSameOrStale mid line
        → IsSameOrStale now line
    by_same now mid (inl p) q = inl p
    by_same now mid (inr p) (inl q) = inl (p.0 ∙ q.0, p.1 ∙ q.1)
    by_same now mid (inr p) (inr q) = inr (p.0 ∙ q.0, p.1 ∙ q.1, p.2 ∙ q.2)

pub kept-all : (lines : List Line) → AreLinesKept lines lines
kept-all lines = record { runs = refl; keeps = keeps-all lines; first = refl }

pub kept-then : (a b c : List Line) → AreLinesKept a b → AreLinesKept b c → AreLinesKept a c
kept-then a b c f g = record {
  runs = g.runs ∙ f.runs;
  keeps = keeps-then a b c f.keeps g.keeps;
  first = g.first ∙ f.first;
}

-- lines below the first that changes
pub keeps-below : (n : ℕ) (old new : List Line) → length old ≤ n → AreSameBelow n old new
    → KeepsLines old new
keeps-below n old new few same at line is =
    let within = got-within old line at is in
    stays-same new at line (same at (omega (arith, within, few)) ∙ is)

-- ---- one line that becomes stale

module _ (lines : List Line) (at : ℕ) (was now : Line) (is : slice_get lines at ≡ Some was)
    (kind_is : now.kind ≡ kind.End) (size_is : now.size ≡ 0) (offset_is : now.offset ≡ was.offset)
    (run_is : now.run ≡ was.run) where
  within : at < length lines
  within = got-within lines was at is

  keeps-stale : KeepsLines lines (set lines at now)
  keeps-stale i line g = by_test (eqb_tells i at)
    where
      by_test : ((eqb i at ≡ true) × (i ≡ at)) ⊎ ((eqb i at ≡ false) × (i ≢ at))
          → StaysLine (set lines at now) i line
      by_test (inl p) =
          let same : was ≡ line = Some-same (sym is ∙ ap (slice_get lines) (sym p.1) ∙ g) in
          record {
            now = now;
            is = ap (slice_get (set lines at now)) p.1 ∙ got-set-same lines at now within;
            offset = offset_is ∙ ap (λ (l : Line). l.offset) same;
            run = run_is ∙ ap (λ (l : Line). l.run) same;
            same = inl (kind_is, size_is);
          }
      by_test (inr p) = stays-same (set lines at now) i line (got-set-other lines at i now p.1 ∙ g)

  pub kept-stale : 0 < at → AreLinesKept lines (set lines at now)
  kept-stale later = record {
    runs = map-set-same (λ (l : Line). l.run) lines at was now is run_is;
    keeps = keeps-stale;
    first = got-set-other lines at 0 now (λ e. omega (arith, e, later));
  }

  pub stale-at : IsStaleAt (set lines at now) at
  stale-at = record {
    line = now;
    is = got-set-same lines at now within;
    kind = kind_is;
    size = size_is;
  }

pub stale-kept : (old new : List Line) (at : ℕ) → KeepsLines old new → IsStaleAt old at
    → IsStaleAt new at
stale-kept old new at keeps stale =
    let s = keeps at stale.line stale.is in by_same s s.same
  where
    by_same : (s : StaysLine new at stale.line) → IsSameOrStale s.now stale.line → IsStaleAt new at
    by_same s (inl p) = record { line = s.now; is = s.is; kind = p.0; size = p.1 }
    by_same s (inr p) =
        record { line = s.now; is = s.is; kind = p.0 ∙ stale.kind; size = p.1 ∙ stale.size }

-- ---- what lines count behind them

-- The line at this place counts so many.
pub record HasRun (lines : List Line) (at run : ℕ) : Type 0 where
  pub line : Line
  pub is : slice_get lines at ≡ Some line
  pub run_is : line.run ≡ run

got-run : (lines : List Line) (at run : ℕ) → slice_get (runs_of lines) at ≡ Some run
    → HasRun lines at run
got-run lines at run h =
    by_line (slice_get lines at) refl (sym (got-map (λ (l : Line). l.run) lines at) ∙ h)
  where
    by_line : (o : Option Line) → slice_get lines at ≡ o
        → option_map (λ (l : Line). l.run) o ≡ Some run → HasRun lines at run
    by_line None e h = cc
    by_line (Some line) e h = record { line = line; is = e; run_is = Some-same h }

pub run-same : (old new : List Line) (at : ℕ) (line : Line) → runs_of new ≡ runs_of old
    → slice_get new at ≡ Some line → HasRun old at line.run
run-same old new at line same is =
    got-run old at line.run (ap (λ (xs : List ℕ). slice_get xs at) (sym same)
    ∙ got-map (λ (l : Line). l.run) new at ∙ ap (option_map (λ (l : Line). l.run)) is)

pub count-same : (old new : List Line) → runs_of new ≡ runs_of old → length new ≡ length old
count-same old new same =
    sym (length-map new (λ (l : Line). l.run)) ∙ ap length same
    ∙ length-map old (λ (l : Line). l.run)

pub counted-same : (old new : List Line) → runs_of new ≡ runs_of old → AreRunsCounted old
    → AreRunsCounted new
counted-same old new same counted at line is some =
    let o = run-same old new at line same is in
    let before : o.line.run ≡ line.run = o.run_is in
    let n = counted at o.line o.is (omega (arith, before, some)) in
    let m = run-same new old (suc at) n.next (sym same) n.is in
    let less = n.run in
    let behind = m.run_is in
    record { next = m.line; is = m.is; run = omega (arith, before, less, behind) }

pub runs-kept : (old new : List Line) → AreLinesKept old new → AreRuns old → AreRunsCounted old
    → AreRuns new
runs-kept old new kept runs counted at line is goes =
    let o = run-same old new at line kept.runs is in
    let s = kept.keeps at o.line o.is in
    counted-same old new kept.runs counted at line is
    (by_same o s (Some-same (sym s.is ∙ is)) s.same)
  where
    by_same : (o : HasRun old at line.run) (s : StaysLine new at o.line) → s.now ≡ line
        → IsSameOrStale s.now o.line → 0 < line.run
    by_same o s same (inl p) =
        absurd (goes-not (ap (λ (l : Line). l.kind) (sym same) ∙ p.0) goes)
    by_same o s same (inr p) =
        let n = runs at o.line o.is (ap ends (sym p.0) ∙ ap (λ (l : Line). ends l.kind) same
        ∙ goes) in
        let less = n.run in
        let run = o.run_is in
        omega (arith, less, run)

-- ---- runs

-- Runs stay runs where others come behind them that are counted.
module _ (old new : List Line) (same : AreSameBelow (length old) old new)
    (counted : AreRunsCountedFrom (length old) new) where
  from_old : (at : ℕ) (line : Line) → HasNextLine old at line → HasNextLine new at line
  from_old at line n = record {
    next = n.next;
    is = same (suc at) (got-within old n.next (suc at) n.is) ∙ n.is;
    run = n.run;
  }

  some : (at : ℕ) (line : Line) (o : Option Line) → slice_get new at ≡ Some line
      → slice_get new (suc at) ≡ o → suc at < length new → length old ≤ at → HasNextLine new at line
  some at line None is e within past = absurd (none-within new (suc at) e within)
  some at line (Some next) is e within past =
      let a = counted at line is past in
      let b = counted (suc at) next e (omega (arith, past)) in
      record { next = next; is = e; run = omega (arith, a, b) }

  pub counted-more : AreRunsCounted old → AreRunsCounted new
  counted-more before at line is run = by_place (cases_lt at (length old))
    where
      by_place : (at < length old) ⊎ (length old ≤ at) → HasNextLine new at line
      by_place (inl p) = from_old at line (before at line (sym (same at p) ∙ is) run)
      by_place (inr p) =
          let a = counted at line is p in
          some at line (slice_get new (suc at)) is refl (omega (arith, a, run)) p

  pub runs-more : AreRuns old → LastEnds new → AreRuns new
  runs-more runs last at line is goes =
      by_place (cases_lt at (length old)) (cases_lt (suc at) (length new))
    where
      true-not : {b : Bool} → b ≡ true → b ≡ false → ⊥
      true-not e f = cc

      by_place : (at < length old) ⊎ (length old ≤ at)
          → (suc at < length new) ⊎ (length new ≤ suc at) → HasNextLine new at line
      by_place (inl p) q = from_old at line (runs at line (sym (same at p) ∙ is) goes)
      by_place (inr p) (inl q) = some at line (slice_get new (suc at)) is refl q p
      by_place (inr p) (inr q) =
          let within = got-within new line at is in
          let e = last at line is (omega (arith, within, q)) in
          absurd (true-not e goes)

pub last-same : (old new : List Line) → length new ≡ length old → AreSameCodes old new
    → LastEnds old → LastEnds new
last-same old new count codes last at line is end = by_old (slice_get old at) refl
  where
    by_old : (o : Option Line) → slice_get old at ≡ o → ends line.kind ≡ true
    by_old None e = absurd (none-within old at e (omega (arith, end, count)))
    by_old (Some before) e =
        let s = codes at before e in
        ap (λ (l : Line). ends l.kind) (Some-same (sym is ∙ s.is)) ∙ ap ends s.kind
        ∙ last at before e (omega (arith, end, count))

-- ---- a page, as its lines change

-- What became of a line: it is the same or stale, and goes on no more than it did.
record Becomes (lines : List Line) (at : ℕ) (line : Line) : Type 0 where
  pub now : Line
  pub is : slice_get lines at ≡ Some now
  pub offset : now.offset ≡ line.offset
  pub same : IsSameOrStale now line
  pub going : IsGoing now → IsGoing line

known-become : (old new : List Line) (page : CodePage)
    → ((at : ℕ) (line : Line) → slice_get old at ≡ Some line → Becomes new at line)
    → IsKnownPage old page → IsKnownPage new page
known-become old new page becomes known = record {
  bytes = known.bytes;
  starts = known.starts;
  each = λ half at got. line_of half at (known.each half at got);
}
  where
    by_begins : (now next : Line) (at : ℕ) → IsSameOrStale now next → now.offset ≡ next.offset
        → (next.kind ≡ kind.End) ⊎ (start_at page next.offset ≡ suc at)
        → (now.kind ≡ kind.End) ⊎ (start_at page now.offset ≡ suc at)
    by_begins now next at (inl p) same b = inl p.0
    by_begins now next at (inr p) same (inl d) = inl (p.0 ∙ d)
    by_begins now next at (inr p) same (inr d) = inr (ap (start_at page) same ∙ d)

    followed : (at : ℕ) (line now : Line) → now.offset ≡ line.offset
        → IsFollowed old page at line → IsFollowed new page at now
    followed at line now offset_is f =
        let s = becomes (suc at) f.next f.is in record {
          next = s.now;
          is = s.is;
          begins = by_begins s.now f.next at s.same s.offset f.begins;
          block = λ b. ap (λ n. n / 256) s.offset
              ∙ f.block (ap (start_at page) (sym s.offset) ∙ b)
              ∙ ap (λ n. n / 256) (sym offset_is);
        }

    behind : (at from to : ℕ) → from ≡ to → IsBehind old at from → IsBehind new at to
    behind at from to same b =
        let s = becomes (suc at) b.next b.is in
        record { next = s.now; is = s.is; offset_is = s.offset ∙ b.offset_is ∙ same }

    knows : (at : ℕ) (line now : Line) → IsSameOrStale now line → now.offset ≡ line.offset
        → 0 < now.size → (0 < line.size → IsCodeLine old page.bytes at line)
        → IsCodeLine new page.bytes at now
    knows at line now (inl p) offset_is live k = absurd (omega (arith, p.1, live))
    knows at line now (inr p) offset_is live k =
        let c = k (subst (λ n. 0 < n) p.1 live) in record {
          code = c.code;
          stands = subst (λ o. IsCodeIn page.bytes o c.code) (sym offset_is) c.stands;
          form = subst (IsFormOf c.code) (sym p.2) c.form;
          size = p.1 ∙ c.size;
          goes = λ g. behind at (line.offset + line.size) (now.offset + now.size)
              (ap (λ n. n + line.size) (sym offset_is) ∙ ap (λ n. now.offset + n) (sym p.1))
              (c.goes (ap ends (sym p.0) ∙ g));
        }

    line_of : (half at : ℕ) → IsLineAt old page (half + half) (suc at)
        → IsLineAt new page (half + half) (suc at)
    line_of half at l =
        let s = becomes (suc at) l.line l.is in record {
          line = s.now;
          is = s.is;
          there = s.offset ∙ l.there;
          knows = λ live. knows (suc at) l.line s.now s.same s.offset live l.knows;
          followed = λ going. followed (suc at) l.line s.now s.offset (l.followed (s.going going));
        }

pub known-kept : (old new : List Line) (page : CodePage) → KeepsLines old new → IsKnownPage old page
    → IsKnownPage new page
known-kept old new page keeps known =
    known-become old new page (λ at line is.
    let s = keeps at line is in record {
      now = s.now;
      is = s.is;
      offset = s.offset;
      same = s.same;
      going = by_same s.now line s.same s.run;
    }) known
  where
    by_same : (now line : Line) → IsSameOrStale now line → now.run ≡ line.run → IsGoing now
        → IsGoing line
    by_same now line s run (inr r) = inr (subst (λ n. 0 < n) run r)
    by_same now line (inl p) run (inl g) = absurd (goes-not p.0 g)
    by_same now line (inr p) run (inl g) = inl (ap ends (sym p.0) ∙ g)

-- lines that are counted, of which each but the last goes on
pub known-counted : (first : ℕ) (old new : List Line) (page : CodePage)
    → length new ≡ length old → AreSameCodes old new → AreSameBelow first old new
    → AreFreshFrom first old → AreRunsCountedFrom first new → IsKnownPage old page
    → IsKnownPage new page
known-counted first old new page count codes below fresh counted known =
    known-become old new page (λ at line is.
    let s = codes at line is in record {
      now = s.now;
      is = s.is;
      offset = s.offset;
      same = inr (s.kind, s.size, s.form);
      going = going at line is s (cases_lt at first);
    }) known
  where
    going : (at : ℕ) (line : Line) → slice_get old at ≡ Some line → (s : IsSameCode new at line)
        → (at < first) ⊎ (first ≤ at) → IsGoing s.now → IsGoing line
    going at line is s p (inl g) = inl (ap ends (sym s.kind) ∙ g)
    going at line is s (inl p) (inr r) =
        let same : s.now ≡ line = Some-same (sym s.is ∙ below at p ∙ is) in
        inr (subst (λ (l : Line). 0 < l.run) same r)
    going at line is s (inr p) (inr r) =
        let c = counted at s.now s.is p in
        let f = fresh at line is p in
        inl (f.1 (omega (arith, c, r, count)))

-- a page of which no line is known
pub known-none : (lines : List Line) (bytes : List ℕ) → length bytes ≡ 4096
    → IsKnownPage lines (record { bytes = bytes; starts = replicate 2048 0 })
known-none lines bytes long = record {
  bytes = long;
  starts = refl;
  each = λ half at got. absurd (none-got 2048 half at got);
}
  where
    none-got : (n i x : ℕ) → slice_get (replicate n 0) i ≡ Some (suc x) → ⊥
    none-got zero i x h = cc
    none-got (suc n) zero x h = let e = Some-same h in omega (arith, e)
    none-got (suc n) (suc i) x h = none-got n i x h

-- ---- a start that is one no more

-- the page whose code at a halfword begins at this line
abbrev pub with_start : CodePage → (half at : ℕ) → CodePage
with_start page half at = record page { starts = set page.starts half at }

pub known-cleared : (lines : List Line) (page : CodePage) (half : ℕ) → half < 2048
    → IsUnlearnt lines page half → IsKnownPage lines page
    → IsKnownPage lines (record page { starts = set page.starts half 0 })
known-cleared lines page half small stale known = record {
  bytes = known.bytes;
  starts = length-set page.starts half 0 ∙ known.starts;
  each = λ other at got. by_test other at got (eqb_tells other half);
}
  where
    room : half < length page.starts
    room = omega (arith, small, known.starts)

    begins : (next : Line) (at : ℕ) → slice_get lines (suc at) ≡ Some next
        → (next.kind ≡ kind.End) ⊎ (start_at page next.offset ≡ suc at)
        → ((eqb (next.offset / 2) half ≡ true) × (next.offset / 2 ≡ half))
        ⊎ ((eqb (next.offset / 2) half ≡ false) × (next.offset / 2 ≢ half))
        → (next.kind ≡ kind.End) ⊎ (start_at (with_start page half 0) next.offset ≡ suc at)
    begins next at is (inl e) q = inl e
    begins next at is (inr b) (inl q) =
        let s = stale at (got-of-some page.starts half at
        (ap (slice_index page.starts) (sym q.1) ∙ b)) in
        let same : s.line ≡ next = Some-same (sym s.is ∙ is) in
        inl (ap (λ (l : Line). l.kind) (sym same) ∙ s.kind)
    begins next at is (inr b) (inr q) =
        inr (get_or-set_other page.starts half (next.offset / 2) 0 0 q.1 ∙ b)

    before : (offset at : ℕ) → start_at (with_start page half 0) offset ≡ suc at
        → ((eqb (offset / 2) half ≡ true) × (offset / 2 ≡ half))
        ⊎ ((eqb (offset / 2) half ≡ false) × (offset / 2 ≢ half)) → start_at page offset ≡ suc at
    before offset at b (inl q) =
        let e : 0 ≡ suc at = sym (get_or-set_at page.starts half (offset / 2) 0 0 q.1 room) ∙ b in
        absurd (omega (arith, e))
    before offset at b (inr q) =
        sym (get_or-set_other page.starts half (offset / 2) 0 0 q.1) ∙ b

    by_test : (other at : ℕ) → slice_get (set page.starts half 0) other ≡ Some (suc at)
        → ((eqb other half ≡ true) × (other ≡ half)) ⊎ ((eqb other half ≡ false) × (other ≢ half))
        → IsLineAt lines (with_start page half 0) (other + other) (suc at)
    by_test other at got (inl p) =
        let e : 0 ≡ suc at = Some-same (sym (got-set-same page.starts half 0 room)
        ∙ ap (slice_get (set page.starts half 0)) (sym p.1) ∙ got) in
        absurd (omega (arith, e))
    by_test other at got (inr p) =
        let l = known.each other at (sym (got-set-other page.starts half other 0 p.1) ∙ got) in
        record {
          line = l.line;
          is = l.is;
          there = l.there;
          knows = l.knows;
          followed = λ goes.
              let f = l.followed goes in record {
                next = f.next;
                is = f.is;
                begins = begins f.next (suc at) f.is f.begins
                    (eqb_tells (f.next.offset / 2) half);
                block = λ b. f.block (before f.next.offset (suc at) b
                    (eqb_tells (f.next.offset / 2) half));
              };
        }

-- ---- bytes of no known code

code-set : (bytes : List ℕ) (i x offset code : ℕ) → (offset + 4 ≤ i) ⊎ (i < offset)
    → IsCodeIn bytes offset code → IsCodeIn (set bytes i x) offset code
code-set bytes i x offset code (inl h) (inl p) =
    inl (p.0, p.1 ∙ sym (ap number_of (cut-set-past 2 offset i x bytes (omega (arith, h)))))
code-set bytes i x offset code (inl h) (inr p) =
    inr (p.0, p.1, p.2 ∙ sym (ap number_of (cut-set-past 4 offset i x bytes h)))
code-set bytes i x offset code (inr h) (inl p) =
    inl (p.0, p.1 ∙ sym (ap number_of (cut-set-before 2 offset i x bytes h)))
code-set bytes i x offset code (inr h) (inr p) =
    inr (p.0, p.1, p.2 ∙ sym (ap number_of (cut-set-before 4 offset i x bytes h)))

pub known-put : (lines : List Line) (page : CodePage) (half low high : ℕ)
    → IsUnlearnt lines page half → IsUnlearnt lines page (half - 1) → IsKnownPage lines page
    → IsKnownPage lines (record page {
      bytes = set (set page.bytes (2 * half) low) (2 * half + 1) high;
    })
known-put lines page half low high here before known = record {
  bytes = length-set (set page.bytes (2 * half) low) (2 * half + 1) high
      ∙ length-set page.bytes (2 * half) low ∙ known.bytes;
  starts = known.starts;
  each = λ other at got.
      let l = known.each other at got in record {
        line = l.line;
        is = l.is;
        there = l.there;
        knows = λ live.
            let c = l.knows live in record {
              code = c.code;
              stands = subst (λ o. IsCodeIn new o c.code) (sym l.there)
                  (code_in other c.code (differs other half at got l.line l.is live here)
                  (differs other (half - 1) at got l.line l.is live before)
                  (cases_lt other half)
                  (subst (λ o. IsCodeIn page.bytes o c.code) l.there c.stands));
              form = c.form;
              size = c.size;
              goes = c.goes;
            };
        followed = λ goes.
            let f = l.followed goes in
            record { next = f.next; is = f.is; begins = f.begins; block = f.block };
      };
}
  where
    new : List ℕ
    new = set (set page.bytes (2 * half) low) (2 * half + 1) high

    differs : (a b at : ℕ) → slice_get page.starts a ≡ Some (suc at) → (line : Line)
        → slice_get lines (suc at) ≡ Some line → 0 < line.size → IsUnlearnt lines page b → a ≢ b
    differs a b at got line is live stale same =
        let s = stale at (ap (slice_get page.starts) (sym same) ∙ got) in
        let none : line.size ≡ 0 =
        ap (λ (l : Line). l.size) (Some-same (sym is ∙ s.is)) ∙ s.size in
        omega (arith, none, live)

    code_in : (other code : ℕ) → other ≢ half → other ≢ half - 1
        → (other < half) ⊎ (half ≤ other) → IsCodeIn page.bytes (other + other) code
        → IsCodeIn new (other + other) code
    code_in other code a b (inl h) is =
        code-set (set page.bytes (2 * half) low) (2 * half + 1) high (other + other) code
        (inl (omega (arith, a, b, h)))
        (code-set page.bytes (2 * half) low (other + other) code (inl (omega (arith, a, b, h))) is)
    code_in other code a b (inr h) is =
        code-set (set page.bytes (2 * half) low) (2 * half + 1) high (other + other) code
        (inr (omega (arith, a, h)))
        (code-set page.bytes (2 * half) low (other + other) code (inr (omega (arith, a, h))) is)

-- ---- lines that are counted

-- each line between two places has as its run how many lines stand behind it
abbrev pub AreCountedIn : (first end : ℕ) → List Line → Type 0
AreCountedIn first end lines = (at : ℕ) (line : Line) → slice_get lines at ≡ Some line
    → first ≤ at → at < end → line.run + suc at ≡ length lines

pub counted-none : (first : ℕ) (lines : List Line) → AreCountedIn first first lines
counted-none first lines = λ at line is from below. absurd (omega (arith, from, below))

pub counted-set : (first end : ℕ) (lines : List Line) (now : Line) → end < length lines
    → now.run + suc end ≡ length lines → AreCountedIn first end lines
    → AreCountedIn first (suc end) (set lines end now)
counted-set first end lines now within run counted at line is from below =
    by_test (eqb_tells at end)
  where
    by_test : ((eqb at end ≡ true) × (at ≡ end)) ⊎ ((eqb at end ≡ false) × (at ≢ end))
        → line.run + suc at ≡ length (set lines end now)
    by_test (inl p) =
        let same : now ≡ line = Some-same (sym (got-set-same lines end now within)
        ∙ ap (slice_get (set lines end now)) (sym p.1) ∙ is) in
        let runs : line.run ≡ now.run = ap (λ (l : Line). l.run) (sym same) in
        omega (arith, run, runs, p.1, length-set lines end now)
    by_test (inr p) =
        let old = counted at line (sym (got-set-other lines end at now p.1) ∙ is) from
        (omega (arith, below, p.1)) in
        omega (arith, old, length-set lines end now)

pub counted-all : (first end : ℕ) (lines : List Line) → length lines ≤ end
    → AreCountedIn first end lines → AreRunsCountedFrom first lines
counted-all first end lines past counted at line is from =
    let within = got-within lines line at is in
    counted at line is from (omega (arith, within, past))

pub below-set : (n at : ℕ) (old new : List Line) (now : Line) → n ≤ at → AreSameBelow n old new
    → AreSameBelow n old (set new at now)
below-set n at old new now past same i h =
    got-set-other new at i now (omega (arith, past, h)) ∙ same i h

-- ---- a page, by its parts

pub page-is : (page : CodePage) (bytes starts : List ℕ) → bytes ≡ page.bytes
    → starts ≡ page.starts → page ≡ record { bytes = bytes; starts = starts }
page-is page bytes starts e f =
    ap (λ (x : List ℕ). record { bytes = x; starts = page.starts }) (sym e)
    ∙ ap (λ (x : List ℕ). record { bytes = bytes; starts = x }) (sym f)

-- a start is one of the lines
pub start-within : (lines : List Line) (page : CodePage) (half : ℕ) → 0 < length lines
    → IsKnownPage lines page → slice_index page.starts half < length lines
start-within lines page half some known = by_start (slice_index page.starts half) refl
  where
    by_start : (x : ℕ) → slice_index page.starts half ≡ x → x < length lines
    by_start zero e = some
    by_start (suc at) e =
        let l = known.each half at (got-of-some page.starts half at e) in
        got-within lines l.line (suc at) l.is

-- ---- a line of a code in place of the end that was the last

-- a code has a size
pub some-size : (code : ℕ) → 0 < code_size code
some-size code = by_test (eqb (code % 4) 3)
  where
    by_test : (b : Bool) → 0 < cond b 4 2
    by_test true = omega arith
    by_test false = omega arith

halved : (n : ℕ) → (n + n) / 2 ≡ n
halved n = omega arith

module _ (lines new : List Line) (page : CodePage) (block half code : ℕ) (line : Line)
    (known : IsKnownPage lines page) (marked : IsMarked lines block half) (some : 1 < length lines)
    (small : half < 2048) (in_block : half / 128 ≡ block)
    (unknown : slice_index page.starts half ≡ 0)
    (stands : IsCodeIn page.bytes (half + half) code) (form_is : IsFormOf code line.form)
    (size_is : line.size ≡ code_size code) (offset_is : line.offset ≡ half + half)
    (run_is : line.run ≡ 0)
    (below : AreSameBelow marked.last lines new) (here : slice_get new marked.last ≡ Some line)
    (goes : ends line.kind ≡ false → IsMarkedBehind new marked.last (line.offset + line.size))
  where
    abbrev page' : CodePage
    page' = with_start page half marked.last

    room : half < length page.starts
    room = omega (arith, small, known.starts)

    -- no start is past the last line
    no-more : (i : ℕ) → slice_index (set page.starts half marked.last) i ≤ marked.last
    no-more i = by_test (eqb_tells i half)
      where
        by_test : ((eqb i half ≡ true) × (i ≡ half)) ⊎ ((eqb i half ≡ false) × (i ≢ half))
            → slice_index (set page.starts half marked.last) i ≤ marked.last
        by_test (inl p) =
            let e = get_or-set_at page.starts half i marked.last 0 p.1 room in omega (arith, e)
        by_test (inr p) =
            let e = get_or-set_other page.starts half i marked.last 0 p.1 in
            let within = start-within lines page i (omega (arith, some)) known in
            omega (arith, e, within, marked.count)

    line-new : (at : ℕ) → marked.last ≡ suc at → IsLineAt new page' (half + half) (suc at)
    line-new at e = record {
      line = line;
      is = ap (slice_get new) (sym e) ∙ here;
      there = offset_is;
      knows = λ live. record {
        code = code;
        stands = subst (λ o. IsCodeIn page.bytes o code) (sym offset_is) stands;
        form = form_is;
        size = size_is;
        goes = λ g.
            let m = goes g in record {
              next = m.line;
              is = ap (λ n. slice_get new (suc n)) (sym e) ∙ m.is;
              offset_is = m.offset;
            };
      };
      followed = by_going;
    }
      where
        by_going : IsGoing line → IsFollowed new page' (suc at) line
        by_going (inl g) =
            let m = goes g in record {
              next = m.line;
              is = ap (λ n. slice_get new (suc n)) (sym e) ∙ m.is;
              begins = inl m.kind;
              block = λ b.
                  let few = no-more (m.line.offset / 2) in absurd (omega (arith, b, few, e));
            }
        by_going (inr r) = absurd (omega (arith, run_is, r))

    begins-old : (next : Line) (at : ℕ)
        → (next.kind ≡ kind.End) ⊎ (start_at page next.offset ≡ suc at)
        → ((eqb (next.offset / 2) half ≡ true) × (next.offset / 2 ≡ half))
        ⊎ ((eqb (next.offset / 2) half ≡ false) × (next.offset / 2 ≢ half))
        → (next.kind ≡ kind.End) ⊎ (start_at page' next.offset ≡ suc at)
    begins-old next at (inl e) q = inl e
    begins-old next at (inr b) (inl q) =
        let z : suc at ≡ 0 = sym b ∙ ap (slice_index page.starts) q.1 ∙ unknown in
        absurd (omega (arith, z))
    begins-old next at (inr b) (inr q) =
        inr (get_or-set_other page.starts half (next.offset / 2) marked.last 0 q.1 ∙ b)

    start-old : (offset at : ℕ) → suc at ≢ marked.last → start_at page' offset ≡ suc at
        → ((eqb (offset / 2) half ≡ true) × (offset / 2 ≡ half))
        ⊎ ((eqb (offset / 2) half ≡ false) × (offset / 2 ≢ half)) → start_at page offset ≡ suc at
    start-old offset at differs b (inl q) =
        let e = get_or-set_at page.starts half (offset / 2) marked.last 0 q.1 room in
        absurd (differs (sym b ∙ e))
    start-old offset at differs b (inr q) =
        sym (get_or-set_other page.starts half (offset / 2) marked.last 0 q.1) ∙ b

    followed-old : (at : ℕ) (old : Line) → suc at < marked.last
        → slice_get lines (suc at) ≡ Some old
        → IsGoing old → IsFollowed lines page (suc at) old → IsFollowed new page' (suc at) old
    followed-old at old h is_old going f = by_test (eqb_tells (suc (suc at)) marked.last)
      where
        by_test : ((eqb (suc (suc at)) marked.last ≡ true) × (suc (suc at) ≡ marked.last))
            ⊎ ((eqb (suc (suc at)) marked.last ≡ false) × (suc (suc at) ≢ marked.last))
            → IsFollowed new page' (suc at) old
        by_test (inl p) =
            let before : old.offset / 256 ≡ block = marked.before (suc at) old p.1 is_old going in
            record {
              next = line;
              is = ap (slice_get new) p.1 ∙ here;
              begins = inr (ap (λ n. slice_index (set page.starts half marked.last)
                  (n / 2)) offset_is
                  ∙ get_or-set_at page.starts half ((half + half) / 2) marked.last 0 (halved half)
                  room ∙ sym p.1);
              block = λ b. omega (arith, offset_is, in_block, before);
            }
        by_test (inr p) = record {
          next = f.next;
          is = below (suc (suc at)) (omega (arith, h, p.1)) ∙ f.is;
          begins = begins-old f.next (suc at) f.begins (eqb_tells (f.next.offset / 2) half);
          block = λ b. f.block (start-old f.next.offset (suc at) p.1 b
              (eqb_tells (f.next.offset / 2) half));
        }

    behind-old : (at offset : ℕ) → suc at < marked.last → IsBehind lines (suc at) offset
        → IsBehind new (suc at) offset
    behind-old at offset h b = by_test (eqb_tells (suc (suc at)) marked.last)
      where
        by_test : ((eqb (suc (suc at)) marked.last ≡ true) × (suc (suc at) ≡ marked.last))
            ⊎ ((eqb (suc (suc at)) marked.last ≡ false) × (suc (suc at) ≢ marked.last))
            → IsBehind new (suc at) offset
        by_test (inl p) =
            let same : b.next ≡ marked.line =
            Some-same (sym b.is ∙ ap (slice_get lines) p.1 ∙ marked.is) in
            record {
              next = line;
              is = ap (slice_get new) p.1 ∙ here;
              offset_is = offset_is ∙ sym marked.offset ∙ ap (λ (l : Line). l.offset) (sym same)
                  ∙ b.offset_is;
            }
        by_test (inr p) = record {
          next = b.next;
          is = below (suc (suc at)) (omega (arith, h, p.1)) ∙ b.is;
          offset_is = b.offset_is;
        }

    line-old : (other at : ℕ) → other ≢ half → IsLineAt lines page (other + other) (suc at)
        → IsLineAt new page' (other + other) (suc at)
    line-old other at differs l = by_test (eqb_tells (suc at) marked.last)
      where
        by_test : ((eqb (suc at) marked.last ≡ true) × (suc at ≡ marked.last))
            ⊎ ((eqb (suc at) marked.last ≡ false) × (suc at ≢ marked.last))
            → IsLineAt new page' (other + other) (suc at)
        by_test (inl p) =
            let same : l.line ≡ marked.line =
            Some-same (sym l.is ∙ ap (slice_get lines) p.1 ∙ marked.is) in
            let e : other + other ≡ half + half =
            sym l.there ∙ ap (λ (x : Line). x.offset) same ∙ marked.offset in
            absurd (omega (arith, e, differs))
        by_test (inr p) =
            let within = got-within lines l.line (suc at) l.is in
            let h : suc at < marked.last = omega (arith, within, p.1, marked.count) in record {
              line = l.line;
              is = below (suc at) h ∙ l.is;
              there = l.there;
              knows = λ live.
                  let c = l.knows live in record {
                    code = c.code;
                    stands = c.stands;
                    form = c.form;
                    size = c.size;
                    goes = λ g. behind-old at (l.line.offset + l.line.size) h (c.goes g);
                  };
              followed = λ g. followed-old at l.line h l.is g (l.followed g);
            }

    pub known-filled : IsKnownPage new page'
    known-filled = record {
      bytes = known.bytes;
      starts = length-set page.starts half marked.last ∙ known.starts;
      each = λ other at got. by_test other at got (eqb_tells other half);
    }
      where
        by_test : (other at : ℕ)
            → slice_get (set page.starts half marked.last) other ≡ Some (suc at)
            → ((eqb other half ≡ true) × (other ≡ half))
            ⊎ ((eqb other half ≡ false) × (other ≢ half))
            → IsLineAt new page' (other + other) (suc at)
        by_test other at got (inl p) =
            subst (λ n. IsLineAt new page' (n + n) (suc at)) (sym p.1)
            (line-new at (Some-same (sym (got-set-same page.starts half marked.last room)
            ∙ ap (slice_get (set page.starts half marked.last)) (sym p.1) ∙ got)))
        by_test other at got (inr p) =
            line-old other at p.1
            (known.each other at (sym (got-set-other page.starts half other marked.last p.1) ∙ got))

-- the starts then
pub starts-filled : (n half last : ℕ) (starts : List ℕ) → n ≤ last → half < length starts
    → AreStartsFrom n starts (set starts half last)
starts-filled n half last starts past room other at got = by_test (eqb_tells other half)
  where
    by_test : ((eqb other half ≡ true) × (other ≡ half))
        ⊎ ((eqb other half ≡ false) × (other ≢ half))
        → (slice_get starts other ≡ Some (suc at)) ⊎ (n ≤ suc at)
    by_test (inl p) =
        let e : last ≡ suc at = Some-same (sym (got-set-same starts half last room)
        ∙ ap (slice_get (set starts half last)) (sym p.1) ∙ got) in
        inr (omega (arith, past, e))
    by_test (inr p) = inl (sym (got-set-other starts half other last p.1) ∙ got)

pub starts-all : (n : ℕ) (starts : List ℕ) → AreStartsFrom n starts starts
starts-all n starts half at got = inl got

pub starts-then : (n m : ℕ) (a b c : List ℕ) → n ≤ m → AreStartsFrom n a b → AreStartsFrom m b c
    → AreStartsFrom n a c
starts-then n m a b c more f g half at got = by_last (g half at got)
  where
    by_last : (slice_get b half ≡ Some (suc at)) ⊎ (m ≤ suc at)
        → (slice_get a half ≡ Some (suc at)) ⊎ (n ≤ suc at)
    by_last (inl e) = f half at e
    by_last (inr h) = inr (omega (arith, more, h))

-- a start taken away
pub starts-cleared : (n half : ℕ) (starts : List ℕ) → AreStartsFrom n starts (set starts half 0)
starts-cleared n half starts other at got = by_test (eqb_tells other half)
  where
    never : (xs : List ℕ) (i : ℕ) → slice_get (set xs i 0) i ≡ Some (suc at) → ⊥
    never [] i h = cc
    never (x ∷ xs) zero h = let e = Some-same h in omega (arith, e)
    never (x ∷ xs) (suc i) h = never xs i h

    by_test : ((eqb other half ≡ true) × (other ≡ half))
        ⊎ ((eqb other half ≡ false) × (other ≢ half))
        → (slice_get starts other ≡ Some (suc at)) ⊎ (n ≤ suc at)
    by_test (inl p) =
        absurd (never starts half (ap (slice_get (set starts half 0)) (sym p.1) ∙ got))
    by_test (inr p) = inl (sym (got-set-other starts half other 0 p.1) ∙ got)

-- ---- a stale line that is renewed in its place

module _ (lines : List Line) (page : CodePage) (half at code : ℕ) (old line : Line)
    (known : IsKnownPage lines page) (starts : slice_index page.starts half ≡ at) (later : 0 < at)
    (here : slice_get lines at ≡ Some old)
    (stands : IsCodeIn page.bytes (half + half) code) (form_is : IsFormOf code line.form)
    (size_is : line.size ≡ code_size code) (offset_is : line.offset ≡ half + half)
    (run_is : line.run ≡ old.run)
    (goes : ends line.kind ≡ false
    → (0 < old.run) × IsBehind lines at (line.offset + line.size))
  where
    abbrev renewed : List Line
    renewed = set lines at line

    inside : at < length lines
    inside = got-within lines old at here

    old-offset : old.offset ≡ half + half
    old-offset = by_at at refl
      where
        by_at : (n : ℕ) → at ≡ n → old.offset ≡ half + half
        by_at zero e = absurd (omega (arith, e, later))
        by_at (suc n) e =
            let l = known.each half n (got-of-some page.starts half n (starts ∙ e)) in
            ap (λ (x : Line). x.offset) (Some-same (sym here ∙ ap (slice_get lines) e ∙ l.is))
            ∙ l.there

    behind-renewed : (i offset : ℕ) → IsBehind lines i offset → IsBehind renewed i offset
    behind-renewed i offset b = by_test (eqb_tells (suc i) at)
      where
        by_test : ((eqb (suc i) at ≡ true) × (suc i ≡ at))
            ⊎ ((eqb (suc i) at ≡ false) × (suc i ≢ at))
            → IsBehind renewed i offset
        by_test (inl p) = record {
          next = line;
          is = ap (slice_get renewed) p.1 ∙ got-set-same lines at line inside;
          offset_is = offset_is ∙ sym old-offset
              ∙ ap (λ (x : Line). x.offset) (Some-same (sym here ∙ ap (slice_get lines) (sym p.1)
              ∙ b.is)) ∙ b.offset_is;
        }
        by_test (inr p) = record {
          next = b.next;
          is = got-set-other lines at (suc i) line p.1 ∙ b.is;
          offset_is = b.offset_is;
        }

    followed-renewed : (i : ℕ) (was now : Line) → now.offset ≡ was.offset
        → IsFollowed lines page i was
        → IsFollowed renewed page i now
    followed-renewed i was now same f = by_test (eqb_tells (suc i) at)
      where
        by_test : ((eqb (suc i) at ≡ true) × (suc i ≡ at))
            ⊎ ((eqb (suc i) at ≡ false) × (suc i ≢ at))
            → IsFollowed renewed page i now
        by_test (inl p) =
            let e : f.next.offset ≡ line.offset =
            ap (λ (x : Line). x.offset) (Some-same (sym f.is ∙ ap (slice_get lines) p.1 ∙ here))
            ∙ old-offset ∙ sym offset_is in
            record {
              next = line;
              is = ap (slice_get renewed) p.1 ∙ got-set-same lines at line inside;
              begins = inr (ap (λ n. slice_index page.starts (n / 2)) offset_is
                  ∙ ap (slice_index page.starts) (halved half) ∙ starts ∙ sym p.1);
              block = λ b. ap (λ n. n / 256) (sym e) ∙ f.block (ap (start_at page) e ∙ b)
                  ∙ ap (λ n. n / 256) (sym same);
            }
        by_test (inr p) = record {
          next = f.next;
          is = got-set-other lines at (suc i) line p.1 ∙ f.is;
          begins = f.begins;
          block = λ b. f.block b ∙ ap (λ n. n / 256) (sym same);
        }

    line-here : (other n : ℕ) → suc n ≡ at → IsLineAt lines page (other + other) (suc n)
        → IsLineAt renewed page (other + other) (suc n)
    line-here other n e l =
        let same : l.line ≡ old = Some-same (sym l.is ∙ ap (slice_get lines) e ∙ here) in
        let to : line.offset ≡ l.line.offset =
        offset_is ∙ sym old-offset ∙ ap (λ (x : Line). x.offset) (sym same) in
        record {
          line = line;
          is = ap (slice_get renewed) e ∙ got-set-same lines at line inside;
          there = to ∙ l.there;
          knows = λ live. record {
            code = code;
            stands = subst (λ o. IsCodeIn page.bytes o code) (sym offset_is) stands;
            form = form_is;
            size = size_is;
            goes = λ g.
                let b = goes g in
                behind-renewed (suc n) (line.offset + line.size)
                (subst (λ i. IsBehind lines i (line.offset + line.size)) (sym e) b.1);
          };
          followed = λ g. followed-renewed (suc n) l.line line to
              (l.followed (inr (subst (λ (x : Line). 0 < x.run) (sym same) (by_going g))));
        }
      where
        by_going : IsGoing line → 0 < old.run
        by_going (inl g) = let b = goes g in b.0
        by_going (inr r) = subst (λ n. 0 < n) run_is r

    line-other : (other n : ℕ) → suc n ≢ at → IsLineAt lines page (other + other) (suc n)
        → IsLineAt renewed page (other + other) (suc n)
    line-other other n differs l = record {
      line = l.line;
      is = got-set-other lines at (suc n) line differs ∙ l.is;
      there = l.there;
      knows = λ live.
          let c = l.knows live in record {
            code = c.code;
            stands = c.stands;
            form = c.form;
            size = c.size;
            goes = λ g. behind-renewed (suc n) (l.line.offset + l.line.size) (c.goes g);
          };
      followed = λ g. followed-renewed (suc n) l.line l.line refl (l.followed g);
    }

    pub known-renewed : IsKnownPage renewed page
    known-renewed = record {
      bytes = known.bytes;
      starts = known.starts;
      each = λ other n got. by_test other n (eqb_tells (suc n) at) (known.each other n got);
    }
      where
        by_test : (other n : ℕ)
            → ((eqb (suc n) at ≡ true) × (suc n ≡ at)) ⊎ ((eqb (suc n) at ≡ false) × (suc n ≢ at))
            → IsLineAt lines page (other + other) (suc n)
            → IsLineAt renewed page (other + other) (suc n)
        by_test other n (inl p) l = line-here other n p.1 l
        by_test other n (inr p) l = line-other other n p.1 l

    pub counts-renewed : runs_of renewed ≡ runs_of lines
    counts-renewed = map-set-same (λ (l : Line). l.run) lines at old line here run_is

    pub runs-renewed : AreRuns lines → AreRunsCounted lines → AreRuns renewed
    runs-renewed runs counted i other is g = by_test (eqb_tells i at)
      where
        by_test : ((eqb i at ≡ true) × (i ≡ at)) ⊎ ((eqb i at ≡ false) × (i ≢ at))
            → HasNextLine renewed i other
        by_test (inl p) =
            let same : line ≡ other = Some-same (sym (got-set-same lines at line inside)
            ∙ ap (slice_get renewed) (sym p.1) ∙ is) in
            let b = goes (ap (λ (x : Line). ends x.kind) same ∙ g) in
            counted-same lines renewed counts-renewed counted i other is
            (subst (λ (x : Line). 0 < x.run) same (subst (λ n. 0 < n) (sym run_is) b.0))
        by_test (inr p) =
            let n = runs i other (sym (got-set-other lines at i line p.1) ∙ is) g in
            let less = n.run in
            counted-same lines renewed counts-renewed counted i other is (omega (arith, less))

    pub live-renewed : IsLiveAt renewed at
    live-renewed = record {
      line = line;
      is = got-set-same lines at line inside;
      size = subst (λ n. 0 < n) (sym size_is) (some-size code);
    }

-- a code's size is even
pub even-size : (code : ℕ) → code_size code / 2 + code_size code / 2 ≡ code_size code
even-size code = by_test (eqb (code % 4) 3)
  where
    by_test : (b : Bool) → cond b 4 2 / 2 + cond b 4 2 / 2 ≡ cond b 4 2
    by_test true = refl
    by_test false = refl

-- ---- a line set, and one pushed behind

module _ (lines new : List Line) (k : ℕ) (line more : Line) (is : new
    ≡ set lines k line ++ more ∷ [])
  where
    pub pushed-below : k < length lines → AreSameBelow k lines new
    pushed-below within at h =
        ap (λ xs. slice_get xs at) is
        ∙ got-append (set lines k line) (more ∷ []) at (omega (
          arith,
          h,
          within,
          length-set lines k line,
        ))
        ∙ got-set-other lines k at line (omega (arith, h))

    pub pushed-here : k < length lines → slice_get new k ≡ Some line
    pushed-here within =
        ap (λ xs. slice_get xs k) is
        ∙ got-append (set lines k line) (more ∷ []) k (omega
        (arith, within, length-set lines k line))
        ∙ got-set-same lines k line within

    pub pushed-more : suc k ≡ length lines → slice_get new (suc k) ≡ Some more
    pushed-more last =
        ap (λ xs. slice_get xs (suc k)) is
        ∙ got-last (set lines k line) more (suc k) (last ∙ sym (length-set lines k line))

-- what comes behind leaves what stands
pub more-below : (lines new : List Line) (more : Line) → new ≡ lines ++ more ∷ []
    → AreSameBelow (length lines) lines new
more-below lines new more is at h =
    ap (λ xs. slice_get xs at) is ∙ got-append lines (more ∷ []) at h

pub more-marked : (lines new : List Line) (more : Line) (block half : ℕ)
    → new ≡ lines ++ more ∷ [] → AreRuns lines → AreRunsCounted lines
    → more.kind ≡ kind.End → more.run ≡ 0 → more.offset ≡ half + half → IsMarked new block half
more-marked lines new more block half is runs counted kind_is run_is offset_is = record {
  last = length lines;
  count = ap length is ∙ omega (arith, length-append lines (more ∷ []));
  line = more;
  is = ap (λ xs. slice_get xs (length lines)) is ∙ got-last lines more (length lines) refl;
  kind = kind_is;
  run = run_is;
  offset = offset_is;
  before = λ at line e got going. absurd (no-next at line e (next at line e got going));
}
  where
    next : (at : ℕ) (line : Line) → suc at ≡ length lines → slice_get new at ≡ Some line
        → IsGoing line → HasNextLine lines at line
    next at line e got going =
        by_going going (sym (more-below lines new more is at (omega (arith, e))) ∙ got)
      where
        by_going : IsGoing line → slice_get lines at ≡ Some line → HasNextLine lines at line
        by_going (inl g) old = runs at line old g
        by_going (inr r) old = counted at line old r

    no-next : (at : ℕ) (line : Line) → suc at ≡ length lines → HasNextLine lines at line → ⊥
    no-next at line e n =
        let within = got-within lines n.next (suc at) n.is in omega (arith, within, e)

-- no line yet but the end that is pushed
pub fresh-first : (lines new : List Line) (more : Line) (first : ℕ) → new ≡ lines ++ more ∷ []
    → first ≡ length lines → 0 < more.size → AreFreshFrom first new
fresh-first lines new more first is from size at line got past =
    let count : length new ≡ length lines + 1 =
    ap length is ∙ omega (arith, length-append lines (more ∷ [])) in
    let within = got-within new line at got in
    let here : at ≡ length lines = omega (arith, within, count, from, past) in
    let same : more ≡ line = Some-same (sym (got-last lines more at here)
    ∙ ap (λ xs. slice_get xs at) (sym is) ∙ got) in
    (subst (λ (l : Line). 0 < l.size) same size, λ h. absurd (omega (arith, h, count, here)))

-- a line set in place of the last
pub fresh-set : (lines : List Line) (k : ℕ) (line : Line) → suc k ≡ length lines → 0 < line.size
    → (first : ℕ) → AreFreshFrom first lines → AreFreshFrom first (set lines k line)
fresh-set lines k line last size first fresh at other got past = by_test (eqb_tells at k)
  where
    by_test : ((eqb at k ≡ true) × (at ≡ k)) ⊎ ((eqb at k ≡ false) × (at ≢ k))
        → (0 < other.size) × (suc at < length (set lines k line) → ends other.kind ≡ false)
    by_test (inl p) =
        let same : line ≡ other = Some-same (sym (got-set-same lines k line (omega (arith, last)))
        ∙ ap (slice_get (set lines k line)) (sym p.1) ∙ got) in (
          subst (λ (l : Line). 0 < l.size) same size,
          λ h. absurd (omega (arith, h, length-set lines k line, last, p.1)),
        )
    by_test (inr p) =
        let f = fresh at other (sym (got-set-other lines k at line p.1) ∙ got) past in
        (f.0, λ h. f.1 (omega (arith, h, length-set lines k line)))

-- and one pushed behind it
pub fresh-pushed : (lines new : List Line) (k : ℕ) (line more : Line)
    → new ≡ set lines k line ++ more ∷ [] → suc k ≡ length lines → 0 < line.size → 0 < more.size
    → ends line.kind ≡ false → (first : ℕ) → AreFreshFrom first lines → AreFreshFrom first new
fresh-pushed lines new k line more is last size more_size goes first fresh at other got past =
    by_test (eqb_tells at (suc k)) (eqb_tells at k)
  where
    count : length new ≡ suc (suc k)
    count = ap length is
        ∙ omega (arith, length-append (set lines k line) (more ∷ []), length-set lines k line, last)

    front : at < suc k → slice_get (set lines k line) at ≡ Some other
    front h =
        sym (got-append (set lines k line) (more ∷ []) at
        (omega (arith, h, length-set lines k line, last)))
        ∙ ap (λ xs. slice_get xs at) (sym is) ∙ got

    within : at < suc (suc k)
    within = let w = got-within new other at got in omega (arith, w, count)

    by_test : ((eqb at (suc k) ≡ true) × (at ≡ suc k)) ⊎ ((eqb at (suc k) ≡ false) × (at ≢ suc k))
        → ((eqb at k ≡ true) × (at ≡ k)) ⊎ ((eqb at k ≡ false) × (at ≢ k))
        → (0 < other.size) × (suc at < length new → ends other.kind ≡ false)
    by_test (inl p) q =
        let same : more ≡ other = Some-same (sym (got-last (set lines k line) more at
        (p.1 ∙ last ∙ sym (length-set lines k line)))
        ∙ ap (λ xs. slice_get xs at) (sym is) ∙ got) in (
          subst (λ (l : Line). 0 < l.size) same more_size,
          λ h. absurd (omega (arith, h, count, p.1)),
        )
    by_test (inr p) (inl q) =
        let same : line ≡ other = Some-same (sym (got-set-same lines k line (omega (arith, last)))
        ∙ ap (slice_get (set lines k line)) (sym q.1) ∙ front (omega (arith, q.1))) in (
          subst (λ (l : Line). 0 < l.size) same size,
          λ h. ap (λ (l : Line). ends l.kind) (sym same) ∙ goes,
        )
    by_test (inr p) (inr q) =
        let w = within in
        let f = fresh at other (sym (got-set-other lines k at line q.1)
        ∙ front (omega (arith, p.1, w))) past in
        (f.0, λ h. f.1 (omega (arith, p.1, q.1, w, last)))

-- a line that was learnt in this run is none that was stale
pub live-learnt : (first : ℕ) (old new : List Line) (page : CodePage) (before : List ℕ)
    (half at : ℕ) → AreSameCodes old new → AreFreshFrom first old → IsKnownPage old page
    → AreStartsFrom first before page.starts → slice_index before half ≡ 0
    → slice_index page.starts half ≡ at → (at ≡ 0) ⊎ IsLiveAt new at
live-learnt first old new page before half zero codes fresh known starts none is = inl refl
live-learnt first old new page before half (suc at) codes fresh known starts none is =
    let got = got-of-some page.starts half at is in
    inr (by_start got (starts half at got))
  where
    by_start : slice_get page.starts half ≡ Some (suc at)
        → (slice_get before half ≡ Some (suc at)) ⊎ (first ≤ suc at) → IsLiveAt new (suc at)
    by_start got (inl e) =
        let z = sym (index-of-got before half (suc at) e) ∙ none in absurd (omega (arith, z))
    by_start got (inr h) =
        let l = known.each half at got in
        let f = fresh (suc at) l.line l.is h in
        let s = codes (suc at) l.line l.is in
        record {
          line = s.now;
          is = s.is;
          size = subst (λ n. 0 < n) (sym s.size) f.0;
        }

-- ---- lines that are the same codes

pub codes-all : (lines : List Line) → AreSameCodes lines lines
codes-all lines at line is =
    record { now = line; is = is; offset = refl; kind = refl; size = refl; form = refl }

pub codes-set : (old lines : List Line) (at : ℕ) (was now : Line) → AreSameCodes old lines
    → slice_get lines at ≡ Some was → now.offset ≡ was.offset → now.kind ≡ was.kind
    → now.size ≡ was.size → now.form ≡ was.form → AreSameCodes old (set lines at now)
codes-set old lines at was now codes is offset_is kind_is size_is form_is i line got =
    by_test (eqb_tells i at) (codes i line got)
  where
    by_test : ((eqb i at ≡ true) × (i ≡ at)) ⊎ ((eqb i at ≡ false) × (i ≢ at))
        → IsSameCode lines i line → IsSameCode (set lines at now) i line
    by_test (inl p) s =
        let same : was ≡ s.now = Some-same (sym is ∙ ap (slice_get lines) (sym p.1) ∙ s.is) in
        record {
          now = now;
          is = ap (slice_get (set lines at now)) p.1
              ∙ got-set-same lines at now (got-within lines was at is);
          offset = offset_is ∙ ap (λ (l : Line). l.offset) same ∙ s.offset;
          kind = kind_is ∙ ap (λ (l : Line). l.kind) same ∙ s.kind;
          size = size_is ∙ ap (λ (l : Line). l.size) same ∙ s.size;
          form = form_is ∙ ap (λ (l : Line). l.form) same ∙ s.form;
        }
    by_test (inr p) s = record {
      now = s.now;
      is = got-set-other lines at i now p.1 ∙ s.is;
      offset = s.offset;
      kind = s.kind;
      size = s.size;
      form = s.form;
    }

-- a start that isn't 0 is one of the lines
pub start-some : (lines : List Line) (page : CodePage) (half : ℕ) → IsKnownPage lines page
    → slice_index page.starts half ≢ 0 → slice_index page.starts half < length lines
start-some lines page half known some = by_start (slice_index page.starts half) refl
  where
    by_start : (x : ℕ) → slice_index page.starts half ≡ x → x < length lines
    by_start zero e = absurd (some e)
    by_start (suc at) e =
        let l = known.each half at (got-of-some page.starts half at e) in
        got-within lines l.line (suc at) l.is
