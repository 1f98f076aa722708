-- From a line to the one behind it.
use Rattle.std.proofs.Common.{ℕ, suc, zero, ◌+◌, ◌*◌, ◌/◌, ◌%◌, ◌^◌, ◌<◌, ◌≡◌, ◌≢◌, ◌⊎◌}
use Rattle.std.proofs.Common.{inl, inr}
use Rattle.std.proofs.Common.{refl, sym, ap, ◌∙◌, subst, arith, Bool, true, false, List, [], ◌∷◌}
use Rattle.std.proofs.Common.{Option, Some}
use Rattle.std.proofs.Common.{Ok, get_or, length, cond, eqb}
use Rattle.std.specs.Prelude.{slice_get, slice_index_or}
use Rattle.dos_world.specs.World.{Registers, with_pc}
use Rattle.dos_world.specs.declared.Access.TheVariants.{Fetch}
use Rattle.rv_form.specs.Forms.{IsFormOf}
use Rattle.flat_machine.specs.Effect.{Effect}
use Rattle.flat_machine.specs.Over.{MemoryAnswers, effect_in}
use Rattle.page_store.specs.Store.{joined}
use Rattle.rv_exec.specs.Follows.{Follows, word_in}
use Rattle.rv_exec.specs.Instruction.{effect_of_form}
use Rattle.rv_exec.specs.Arrivals.{arrived_by}
use Rattle.rv_exec.specs.declared.Went.TheVariants.{Step}
use Rattle.rv_exec.specs.declared.next.Next.{Next}
use Rattle.rv_exec.specs.declared.next.Next.TheVariants.{On, Short, To, Not}
use Rattle.code_pages.specs.Codes.{code_size}
use Rattle.code_pages.specs.Kinds.{ends}
use Rattle.code_pages.specs.Lines.{AreKnownPages, CodePage, IsCodeLine, IsLineAt, IsLiveAt}
use Rattle.code_pages.specs.Lines.{IsStartIn, Known, bytes_of_pages, start_at}
use Rattle.code_pages.specs.declared.kind.Kind.TheVariants as kind
use Rattle.code_pages.specs.declared.line.Line.{Line}
use Rattle.code_pages.proofs.KnownLaws.{IsNextLine, line-of-start, live-line, next-line}
use Rattle.page_store.specs.declared.compared.Slot.{Slot}
use Rattle.quantum_run.specs.Finding.{AreFramesOf, page_start}
use Rattle.quantum_run.specs.Flying.{DoneOrNot, IsLineOf}
use Rattle.quantum_run.specs.Knowing.{AreAmong, IsLineFor, block_place, code_place, empty_slot}
use Rattle.quantum_run.specs.Knowing.{slot_of}
use Rattle.quantum_run.specs.Answering.{Places, Still, run_answers}
use Rattle.quantum_run.specs.Showing.{ShowsKnown, answers_of}
use Rattle.quantum_run.specs.ThreadRuns.{Reaches}
use Rattle.quantum_run.proofs.Flying.{one-by-form}
use Rattle.quantum_run.proofs.RunSteps.{reaches-more, reaches-shown}
use Rattle.quantum_run.proofs.Words.{line-word}

pub Some-line : (a b : Line) → ◌≡◌ {A = Option Line} (Some a) (Some b) → a ≡ b
Some-line a b same = cc

-- a line that isn't an end isn't stale
pub live-unless-end : (line : Line) → line.kind ≢ kind.End → 0 < line.size
live-unless-end line other = by_size line.size refl
  where
    by_size : (n : ℕ) → line.size ≡ n → 0 < line.size
    by_size zero e = absurd (other (line.sized e))
    by_size (suc n) e = omega (arith, e)

-- the line at a place where one stands that isn't stale
pub live-at : (lines own : List Line) (at : ℕ) (line : Line) → lines ≡ own → IsLiveAt own at
    → slice_get lines at ≡ Some line → 0 < line.size
live-at lines own at line are live is =
    let same : live.line ≡ line = Some-line live.line line
    (sym live.is ∙ ap (λ (xs : List Line). slice_get xs at) (sym are) ∙ is) in
    subst (λ (x : Line). 0 < x.size) same live.size

size-even : (code : ℕ) → code_size code % 2 ≡ 0
size-even code = by_test (eqb (code % 4) 3)
  where
    by_test : (b : Bool) → cond b 4 2 % 2 ≡ 0
    by_test true = refl
    by_test false = refl

pub got-within : (xs : List Line) (i : ℕ) (line : Line) → slice_get xs i ≡ Some line → i < length xs
got-within [] i line is = cc
got-within (x ∷ xs) zero line is = omega arith
got-within (x ∷ xs) (suc i) line is = omega (arith, got-within xs i line is)

-- ---- the line of a code

module _ (shown : List Slot) (compared : List Bool) (known : Known) (lines : List Line)
    (base address : ℕ) where
  -- the line with its page
  line-at : (n : ℕ) (of : IsLineOf shown compared known lines base address (suc n))
      → IsLineAt known.lines of.line.start.page (address % 4096) (suc n)
  line-at n of =
      line-of-start known (code_place address) (address % 4096) n of.line.start.page of.pages
      of.line.start.is (omega (arith, of.even)) of.line.start.begins

  -- its line is the one in the lines
  line-is : (n : ℕ) (line : Line) (of : IsLineOf shown compared known lines base address (suc n))
      → slice_get lines (suc n) ≡ Some line → (line-at n of).line ≡ line
  line-is n line of is =
      Some-line (line-at n of).line line
      (sym (line-at n of).is ∙ ap (λ (xs : List Line). slice_get xs (suc n)) of.lines_are ∙ is)

  pub stands-at : (n : ℕ) (line : Line) → IsLineOf shown compared known lines base address (suc n)
      → slice_get lines (suc n) ≡ Some line → address ≡ base + line.offset
  stands-at n line of is =
      let there : line.offset ≡ address % 4096 =
      ap (λ (x : Line). x.offset) (sym (line-is n line of is)) ∙ (line-at n of).there in
      omega (arith, there, of.page)

  -- what stands behind a line at which no run ends
  pub behind : (n : ℕ) (line next : Line) (of : IsLineOf shown compared known lines base address
      (suc n))
      → slice_get lines (suc n) ≡ Some line → ends line.kind ≡ false
      → slice_get lines (suc (suc n)) ≡ Some next
      → (next.offset ≡ line.offset + line.size) × ((next.kind ≡ kind.End)
      ⊎ IsLineOf shown compared known lines base ((base + next.offset) % 2 ^ 32) (suc (suc n)))
  behind n line next of is goes there = by_known after.known
    where
      at : IsLineAt known.lines of.line.start.page (address % 4096) (suc n)
      at = line-at n of

      same : at.line ≡ line
      same = line-is n line of is

      page : CodePage
      page = of.line.start.page

      is-known : slice_get known.lines (suc n) ≡ Some line
      is-known = ap (λ (xs : List Line). slice_get xs (suc n)) of.lines_are ∙ is

      after : IsNextLine known page (suc n) line
      after = next-line known (code_place address) (address % 4096) (suc n) page line of.pages
          of.line.start.is (omega (arith, of.even)) at is-known goes

      code : IsCodeLine known.lines page.bytes (suc n) line
      code = subst (λ (x : Line). 0 < x.size → IsCodeLine known.lines page.bytes (suc n) x) same
          at.knows (live-line line goes)

      next-is : after.next ≡ next
      next-is = Some-line after.next next
          (sym after.is ∙ ap (λ (xs : List Line). slice_get xs (suc (suc n))) of.lines_are
          ∙ there)

      offset : next.offset ≡ line.offset + line.size
      offset = ap (λ (x : Line). x.offset) (sym next-is) ∙ after.offset

      there-is : line.offset ≡ address % 4096
      there-is = ap (λ (x : Line). x.offset) (sym same) ∙ at.there

      by_begins : start_at page next.offset ≡ suc (suc n)
          → next.offset / 256 ≡ line.offset / 256
          → IsLineOf shown compared known lines base ((base + next.offset) % 2 ^ 32) (suc (suc n))
      by_begins begins near =
          let a : ℕ = (base + next.offset) % 2 ^ 32 in
          let small : next.offset < 4096 = omega (arith, near, there-is) in
          let number : a / 4096 ≡ address / 4096 = omega (arith, small, of.page, of.small) in
          let place : a % 4096 ≡ next.offset = omega (arith, small, of.page, of.small) in
          let part : a % 4096 / 256 ≡ address % 4096 / 256 =
          ap (λ k. k / 256) place ∙ near ∙ ap (λ k. k / 256) there-is in
          record {
            lines_are = of.lines_are;
            pages = of.pages;
            line = record {
              compared_is = record {
                found = ap (λ k. (slice_index_or shown (k % 64) empty_slot).start) number
                    ∙ of.line.compared_is.found ∙ ap (λ k. k * 4096) (sym number);
                is = ap (λ k. slice_get compared (k % 64 * 16 + a % 4096 / 256)) number
                    ∙ ap (λ k. slice_get compared (address / 4096 % 64 * 16 + k)) part
                    ∙ of.line.compared_is.is;
              };
              start = record {
                page = page;
                is = ap (λ k. slice_get known.pages (k % 256)) number ∙ of.line.start.is;
                begins = ap (start_at page) place ∙ begins;
              };
            };
            page = ap (λ k. k * 4096) number ∙ of.page;
            even = omega (arith, place, offset, there-is, of.even, size-even code.code, code.size);
            small = omega arith;
          }

      by_known : (after.next.kind ≡ kind.End) ⊎ ((start_at page after.next.offset ≡ suc (suc n))
          × (after.next.offset / 256 ≡ line.offset / 256)
          × IsLineAt known.lines page (line.offset + line.size) (suc (suc n)))
          → (next.offset ≡ line.offset + line.size) × ((next.kind ≡ kind.End)
          ⊎ IsLineOf shown compared known lines base ((base + next.offset) % 2 ^ 32) (suc (suc n)))
      by_known (inl e) = (offset, inl (ap (λ (x : Line). x.kind) (sym next-is) ∙ e))
      by_known (inr k) = (
        offset,
        inr (by_begins (ap (λ (x : Line). start_at page x.offset) (sym next-is) ∙ k.0)
            (ap (λ (x : Line). x.offset / 256) (sym next-is) ∙ k.1)),
      )

pub stands : (shown : List Slot) (compared : List Bool) (known : Known) (lines : List Line)
    (base address at : ℕ) (line : Line) → 0 < at
    → IsLineOf shown compared known lines base address at → slice_get lines at ≡ Some line
    → address ≡ base + line.offset
stands shown compared known lines base address zero line some of is = absurd (omega (arith, some))
stands shown compared known lines base address (suc n) line some of is =
    stands-at shown compared known lines base address n line of is

pub goes-behind : (shown : List Slot) (compared : List Bool) (known : Known) (lines : List Line)
    (base address at : ℕ) (line next : Line) → 0 < at
    → IsLineOf shown compared known lines base address at → slice_get lines at ≡ Some line
    → ends line.kind ≡ false → slice_get lines (suc at) ≡ Some next
    → (next.offset ≡ line.offset + line.size) × ((next.kind ≡ kind.End)
    ⊎ IsLineOf shown compared known lines base ((base + next.offset) % 2 ^ 32) (suc at))
goes-behind shown compared known lines base address zero line next some of is goes there =
    absurd (omega (arith, some))
goes-behind shown compared known lines base address (suc n) line next some of is goes there =
    behind shown compared known lines base address n line next of is goes there

-- the code of a line that isn't stale is the one that is fetched
pub fetched : {F M : Type 0} (places : F → Places M) (now : Still) (fixed : F) (state : M)
    (pages : List (Option (List ℕ))) (slots shown : List Slot) (compared : List Bool)
    (known : Known) (lines : List Line) (base address n : ℕ) (line : Line) (f : Still × F) (m : M)
    → (places fixed).bytes state ≡ joined pages
    → AreFramesOf now.thread now.owners now.entries Fetch shown → AreAmong slots shown
    → IsLineOf shown compared known lines base address (suc n)
    → slice_get lines (suc n) ≡ Some line → 0 < line.size
    → ShowsKnown now fixed state pages slots compared (f, bytes_of_pages known) m
    → (code : ℕ) × IsFormOf code line.form
    × (word_in (run_answers f.0 (places f.1)) m address ≡ Ok code)
fetched places now fixed state pages slots shown compared known lines base address n line f m
    bytes_are frames kept of is live shows =
    let here = line-word places now fixed state pages slots shown compared f known m address (suc n)
    line kept shows bytes_are frames of.pages of.line (omega arith) of.even of.small
    (ap (λ (xs : List Line). slice_get xs (suc n)) of.lines_are ∙ is) live in
    (here.is.code, here.is.form, here.word)

pub not-none : (n : ℕ) → (n ≡ 0 → ⊥) → 0 < n
not-none zero other = absurd (other refl)
not-none (suc n) other = omega arith

pub line-of : (shown : List Slot) (compared : List Bool) (known : Known) (lines : List Line)
    (address at : ℕ) → 0 < at → (at ≡ 0) ⊎ IsLineFor shown compared known address at
    → (at ≡ 0) ⊎ (address % 2 ≡ 0) → address < 2 ^ 32 → lines ≡ known.lines
    → AreKnownPages known → IsLineOf shown compared known lines (page_start address) address at
line-of shown compared known lines address at some (inl none) even small are pages =
    absurd (omega (arith, some, none))
line-of shown compared known lines address at some (inr line) (inl none) small are pages =
    absurd (omega (arith, some, none))
line-of shown compared known lines address at some (inr line) (inr even) small are pages = record {
  lines_are = sym are;
  pages = pages;
  line = line;
  page = refl;
  even = even;
  small = small;
}

pub not-left : {A : Type 0} (n : ℕ) → (n ≡ 0) ⊎ A → (n ≡ 0 → ⊥) → A
not-left n (inl none) other = absurd (other none)
not-left n (inr a) other = a

-- the line that begins at an offset of a page whose block there has been compared
pub lands : (shown : List Slot) (compared : List Bool) (known : Known) (lines : List Line)
    (base to at block place : ℕ) → lines ≡ known.lines → AreKnownPages known
    → (slot_of shown base).start ≡ base → base % 4096 ≡ 0 → to < 4096 → to % 2 ≡ 0
    → base < 2 ^ 32 → block ≡ base / 4096 % 64
    → slice_get compared (16 * block + to / 256) ≡ Some true
    → place ≡ code_place base → IsStartIn known place to at
    → IsLineOf shown compared known lines base ((base + to) % 2 ^ 32) at
lands shown compared known lines base to at block place are pages found whole inside even small slot
    is same start =
    let a : ℕ = (base + to) % 2 ^ 32 in
    let number : a / 4096 ≡ base / 4096 = omega (arith, inside, whole, small) in
    let offset : a % 4096 ≡ to = omega (arith, inside, whole, small) in
    let there : block_place a ≡ 16 * block + to / 256 =
    ap (λ k. k % 64 * 16 + a % 4096 / 256) number
    ∙ ap (λ k. base / 4096 % 64 * 16 + k / 256) offset
    ∙ omega (arith, slot) in
    let page : page_start a ≡ base = omega (arith, number, whole) in
    let begun : IsStartIn known (code_place base) to at =
    subst (λ k. IsStartIn known k to at) same start in
    record {
      lines_are = sym are;
      pages = pages;
      line = record {
        compared_is = record {
          found = ap (λ k. (slice_index_or shown (k % 64) empty_slot).start) number ∙ found
              ∙ sym page;
          is = ap (λ k. slice_get compared k) there ∙ is;
        };
        start = record {
          page = begun.page;
          is = ap (λ k. slice_get known.pages (k % 256)) number ∙ begun.is;
          begins = ap (start_at begun.page) offset ∙ begun.begins;
        };
      };
      page = page;
      even = omega (arith, offset, even);
      small = omega arith;
    }

pub placed : (shown : List Slot) (compared : List Bool) (known : Known) (lines : List Line)
    (base address at : ℕ) → 0 < at → IsLineOf shown compared known lines base address at
    → (line : Line) × (slice_get lines at ≡ Some line)
placed shown compared known lines base address zero some of = absurd (omega (arith, some))
placed shown compared known lines base address (suc n) some of =
    let here = line-at shown compared known lines base address n of in (
      here.line,
      subst (λ (xs : List Line). slice_get xs (suc n) ≡ Some here.line) of.lines_are
          here.is,
    )

pub fetched-at : {F M : Type 0} (places : F → Places M) (now : Still) (fixed : F) (state : M)
    (pages : List (Option (List ℕ))) (slots shown : List Slot) (compared : List Bool)
    (known : Known) (lines : List Line) (base address at : ℕ) (line : Line) (f : Still × F) (m : M)
    → 0 < at → (places fixed).bytes state ≡ joined pages
    → AreFramesOf now.thread now.owners now.entries Fetch shown → AreAmong slots shown
    → IsLineOf shown compared known lines base address at
    → slice_get lines at ≡ Some line → 0 < line.size
    → ShowsKnown now fixed state pages slots compared (f, bytes_of_pages known) m
    → (code : ℕ) × IsFormOf code line.form
    × (word_in (run_answers f.0 (places f.1)) m address ≡ Ok code)
fetched-at places now fixed state pages slots shown compared known lines base address zero line f m
    some bytes_are frames kept of is live shows = absurd (omega (arith, some))
fetched-at places now fixed state pages slots shown compared known lines base address (suc n) line
    f m some bytes_are frames kept of is live shows =
    fetched places now fixed state pages slots shown compared known lines base address n line f m
    bytes_are frames kept of is live shows

-- the line at a place is the one that is got there
pub got-line : (xs : List Line) (i : ℕ) (line other : Line) → slice_get xs i ≡ Some line
    → other ≡ get_or xs i other → other ≡ line
got-line xs i line other is same = same ∙ go xs i is
  where
    go : (ys : List Line) (k : ℕ) → slice_get ys k ≡ Some line → get_or ys k other ≡ line
    go [] k q = cc
    go (y ∷ ys) zero q = Some-line y line q
    go (y ∷ ys) (suc k) q = go ys k q

pub On≢Not : On ≡ Not → ⊥
On≢Not q = cc

pub Short≢Not : Short ≡ Not → ⊥
Short≢Not q = cc

pub To≢Not : (target : ℕ) → To target ≡ Not → ⊥
To≢Not target q = cc

-- a run by the instruction of a line, which is done
pub line-done : {F M : Type 0} (places : F → Places M) (now left : Still) (fixed after : F)
    (state left_state : M) (pages left_pages : List (Option (List ℕ)))
    (slots left_slots shown first_shown : List Slot)
    (compared left_compared first_compared : List Bool)
    (known : Known) (lines : List Line) (base pc at : ℕ) (line : Line) (r r' : Registers)
    (next : Next) (made all : ℕ) → (places fixed).bytes state ≡ joined pages
    → AreFramesOf now.thread now.owners now.entries Fetch shown → AreAmong slots shown
    → DoneOrNot (answers_of places) (ShowsKnown now fixed state pages slots compared)
    (ShowsKnown left after left_state left_pages left_slots left_compared) line.size pc r r' next
    (effect_of_form line.form)
    → next ≢ Not → 0 < at → slice_get lines at ≡ Some line → 0 < line.size → shown ≡ first_shown
    → compared ≡ first_compared → all ≡ made + 1 → (f : Still × F) (r0 : Registers) (m : M)
    → IsLineOf first_shown first_compared known lines base pc at
    → Reaches (run_answers f.0 (places f.1)) (ShowsKnown now fixed state pages slots compared
    (f, bytes_of_pages known)) r0 m (with_pc r pc) made
    → Reaches (run_answers f.0 (places f.1)) (ShowsKnown left after left_state left_pages left_slots
    left_compared (f, bytes_of_pages known)) r0 m (arrived_by line.size r' pc next) all
line-done places now left fixed after state left_state pages left_pages slots left_slots shown
    first_shown compared left_compared first_compared known lines base pc zero line r r' next made
    all bytes_are frames kept done other some is live same_shown same_compared count f r0 m of
    reached = absurd (omega (arith, some))
line-done {F} {M} places now left fixed after state left_state pages left_pages slots left_slots
    shown first_shown compared left_compared first_compared known lines base pc (suc n) line r r'
    next made all bytes_are frames kept done other some is live same_shown same_compared count f r0
    m of reached = by_next next other done
  where
    answers : MemoryAnswers M
    answers = run_answers f.0 (places f.1)

    before : M → Type 0
    before = ShowsKnown now fixed state pages slots compared (f, bytes_of_pages known)

    then : M → Type 0
    then = ShowsKnown left after left_state left_pages left_slots left_compared
        (f, bytes_of_pages known)

    here : IsLineOf shown compared known lines base pc (suc n)
    here = subst (λ (xs : List Slot). IsLineOf xs compared known lines base pc (suc n))
        (sym same_shown)
        (subst (λ (xs : List Bool). IsLineOf first_shown xs known lines base pc (suc n))
        (sym same_compared) of)

    go : (to : Registers) → ((u : M) → before u → Follows then u (with_pc r pc) to Step
        (effect_in answers u (effect_of_form line.form (with_pc r pc))))
        → Reaches answers then r0 m to all
    go to does = reaches-more answers r0 m before then (with_pc r pc) to made all count
        (λ u shows. let found = fetched places now fixed state pages slots shown compared known
        lines base pc n line f u bytes_are frames kept here is live shows in
        one-by-form answers then pc r to line.form u found.0 found.1 found.2 (does u shows))
        reached

    by_next : (k : Next) → k ≢ Not
        → DoneOrNot (answers_of places) (ShowsKnown now fixed state pages slots compared)
        (ShowsKnown left after left_state left_pages left_slots left_compared) line.size pc r r' k
        (effect_of_form line.form)
        → Reaches answers then r0 m (arrived_by line.size r' pc k) all
    by_next On q d =
        go (arrived_by line.size r' pc On) (λ u s. d (f, bytes_of_pages known) u s)
    by_next Short q d =
        go (arrived_by line.size r' pc Short) (λ u s. d (f, bytes_of_pages known) u s)
    by_next (To target) q d =
        go (arrived_by line.size r' pc (To target)) (λ u s. d (f, bytes_of_pages known) u s)
    by_next Not q d = absurd (q refl)

-- and by one that isn't
pub line-not-done : {Fixed M : Type 0} (answers : Fixed → MemoryAnswers M)
    (old new : Fixed → M → Type 0) (size pc : ℕ) (r r' : Registers) (e : Registers → Effect)
    (made : ℕ) → DoneOrNot answers old new size pc r r' Not e → (f : Fixed) (r0 : Registers) (m : M)
    → Reaches (answers f) (old f) r0 m (with_pc r pc) made
    → Reaches (answers f) (new f) r0 m (with_pc r' pc) made
line-not-done answers old new size pc r r' e made done f r0 m reached =
    subst (λ (x : Registers). Reaches (answers f) (new f) r0 m x made) (sym done.0)
    (reaches-shown (answers f) r0 m (old f) (new f) (with_pc r pc) made (λ u s. done.1 f u s)
    reached)

-- Where a run of lines led nowhere, its first line is that of the code there.
pub stays-there : (shown shown' : List Slot) (compared compared' : List Bool) (known : Known)
    (lines : List Line) (base to gone result at : ℕ) (line : Line) → 0 < at → shown' ≡ shown
    → compared' ≡ compared → lines ≡ known.lines
    → IsLineOf shown compared known known.lines base ((base + to) % 2 ^ 32) at
    → slice_get lines at ≡ Some line → gone ≡ line.offset → result ≡ (base + gone) % 2 ^ 32
    → IsLineOf shown' compared' known known.lines (page_start result) result at
stays-there shown shown' compared compared' known lines base to gone result at line some same-shown
    same-compared are of is stands-at-it led =
    let a : ℕ = (base + to) % 2 ^ 32 in
    let there : slice_get known.lines at ≡ Some line =
    ap (λ (xs : List Line). slice_get xs at) (sym are) ∙ is in
    let e : a ≡ base + line.offset = stands shown compared known known.lines base a at line some of
    there in
    let same : a ≡ result = omega (arith, e, stands-at-it, led, of.small) in
    subst (λ (xs : List Slot). IsLineOf xs compared' known known.lines (page_start result) result
    at) (sym same-shown)
    (subst (λ (xs : List Bool). IsLineOf shown xs known known.lines (page_start result) result at)
    (sym same-compared)
    (subst (λ k. IsLineOf shown compared known known.lines (page_start k) k at) same
    (subst (λ k. IsLineOf shown compared known known.lines k a at) (sym of.page) of)))
