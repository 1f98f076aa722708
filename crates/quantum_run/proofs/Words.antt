-- The word of a line whose block has been compared.
use Rattle.std.proofs.Common.{ℕ, zero, suc, ◌+◌, ◌*◌, ◌/◌, ◌%◌, ◌^◌, ◌<◌, ◌≤◌, ◌≡◌}
use Rattle.std.proofs.Common.{inl, inr}
use Rattle.std.proofs.Common.{refl, sym, ap, ◌∙◌, subst, arith, List, [], ◌∷◌, length, take, drop}
use Rattle.std.proofs.Common.{Bool, Option, Some, Ok, slice_get, map}
use Rattle.std.specs.Prelude.{slice_index}
use Rattle.std.specs.Option.{option_map}
use Rattle.std.proofs.lemmas.List.{drop-drop}
use Rattle.dos_world.specs.Reach.{number_of}
use Rattle.dos_world.specs.declared.Access.TheVariants.{Fetch}
use Rattle.dos_world.specs.declared.Size.TheVariants.{Half}
use Rattle.page_store.specs.Store.{joined, whole}
use Rattle.page_store.proofs.Pages.{length-whole}
use Rattle.code_pages.specs.Codes.{IsCodeIn}
use Rattle.code_pages.proofs.KnownLaws.{line-of-start}
use Rattle.code_pages.specs.declared.line.Line.{Line}
use Rattle.code_pages.specs.Lines.{AreKnownPages, CodePage, IsCodeLine, IsLineAt, IsStartIn, Known}
use Rattle.code_pages.specs.Lines.{bytes_of_pages}
use Rattle.flat_machine.specs.Over.{MemoryAnswers}
use Rattle.rv_exec.specs.Follows.{word_in}
use Rattle.quantum_run.specs.Answering.{Places, Still, run_answers}
use Rattle.page_store.specs.declared.compared.Slot.{Slot}
use Rattle.quantum_run.specs.Finding.{AreFramesOf, page_start}
use Rattle.quantum_run.specs.Knowing.{AreAmong, AreSameAround, IsLineFor}
use Rattle.quantum_run.specs.Knowing.{code_place, empty_slot, slot_of}
use Rattle.quantum_run.proofs.Comparing.{keeps-among}
use Rattle.quantum_run.specs.Showing.{ShowsKnown}
use Rattle.quantum_run.proofs.Comparing.{slot-there}
use Rattle.quantum_run.proofs.Places.{read-there}
use Rattle.quantum_run.proofs.Reaching.{as-shown, half-found, number-four, word-alone, word-both}

Some-same : {A : Type 0} {x y : A} → ◌≡◌ {A = Option A} (Some x) (Some y) → x ≡ y
Some-same h = cc

-- ---- bytes that are the same

-- bytes cut out where both lists have the same ones
same-cut : (n o : ℕ) (xs ys : List ℕ) → o + n ≤ length xs → o + n ≤ length ys
    → ((i : ℕ) → o ≤ i → i < o + n → slice_index xs i ≡ slice_index ys i)
    → take n (drop o xs) ≡ take n (drop o ys)
same-cut zero zero xs ys a b h = refl
same-cut (suc n) zero [] ys a b h = absurd (omega (arith, a))
same-cut (suc n) zero (x ∷ xs) [] a b h = absurd (omega (arith, b))
same-cut (suc n) zero (x ∷ xs) (y ∷ ys) a b h =
    ap (λ (z : ℕ). z ∷ take n xs) (h 0 (omega arith) (omega arith))
    ∙ ap (λ (zs : List ℕ). y ∷ zs)
    (same-cut n zero xs ys (omega (arith, a)) (omega (arith, b))
    (λ i low high. h (suc i) (omega arith) (omega (arith, high))))
same-cut zero (suc o) [] ys a b h = absurd (omega (arith, a))
same-cut (suc n) (suc o) [] ys a b h = absurd (omega (arith, a))
same-cut zero (suc o) (x ∷ xs) [] a b h = absurd (omega (arith, b))
same-cut (suc n) (suc o) (x ∷ xs) [] a b h = absurd (omega (arith, b))
same-cut zero (suc o) (x ∷ xs) (y ∷ ys) a b h =
    same-cut zero o xs ys (omega (arith, a)) (omega (arith, b))
    (λ i low high. h (suc i) (omega (arith, low)) (omega (arith, high)))
same-cut (suc n) (suc o) (x ∷ xs) (y ∷ ys) a b h =
    same-cut (suc n) o xs ys (omega (arith, a)) (omega (arith, b))
    (λ i low high. h (suc i) (omega (arith, low)) (omega (arith, high)))

-- the code at an offset stands in each page with the same bytes around it
code-around : (own page : List ℕ) (offset code : ℕ) → length own ≡ 4096 → length page ≡ 4096
    → offset % 2 ≡ 0 → offset < 4096 → AreSameAround offset own page → IsCodeIn own offset code
    → IsCodeIn page offset code
code-around own page offset code size full even within same (inl lone) = inl (
  lone.0,
  lone.1 ∙ ap number_of (same-cut 2 offset own page (omega (arith, size, even, within))
      (omega (arith, full, even, within))
      (λ i low high. same i (omega (arith, low)) (omega (arith, high, even))
      (omega (arith, high, even, within)))),
)
code-around own page offset code size full even within same (inr pair) = let room = pair.1 in inr (
  pair.0,
  pair.1,
  pair.2 ∙ ap number_of (same-cut 4 offset own page (omega (arith, size, room))
      (omega (arith, full, room))
      (λ i low high. same i (omega (arith, low)) (omega (arith, high, even))
      (omega (arith, high, room)))),
)

-- ---- the word

-- a halfword of a page that a fetch finds
half-in : {M : Type 0} (s : Still) (places : Places M) (m : M) (pages : List (Option (List ℕ)))
    (shown : List Slot) (address a : ℕ) (page : List ℕ) → places.bytes m ≡ joined pages
    → AreFramesOf s.thread s.owners s.entries Fetch shown → a < 2 ^ 32
    → a / 4096 ≡ address / 4096 → a % 2 ≡ 0
    → (slot_of shown address).start ≡ page_start address → address < 2 ^ 32
    → slice_get pages (slot_of shown address).frame ≡ Some (Some page)
    → (run_answers s places).fetch m a ≡ Ok (number_of (take 2 (drop (a % 4096) (whole page))))
half-in s places m pages shown address a page are frames small number even found fits there =
    let frame = (slot_of shown address).frame in
    let at = frames (address / 4096 % 64) empty_slot (slot-there shown address fits found) in
    half-found s places m (joined pages) a frame
    (number_of (take 2 (drop (a % 4096) (whole page)))) are even
    (at.finds a small (ap (λ (n : ℕ). n * 4096) number ∙ sym found))
    (read-there pages frame (a % 4096) Half page
    (number_of (take 2 (drop (a % 4096) (whole page)))) there (omega (arith, even)) refl)

module _ {M : Type 0} (s : Still) (places : Places M) (m : M) (pages : List (Option (List ℕ)))
    (shown : List Slot) (address : ℕ) (page : List ℕ) (are : places.bytes m ≡ joined pages)
    (frames : AreFramesOf s.thread s.owners s.entries Fetch shown)
    (even : address % 2 ≡ 0) (fits : address < 2 ^ 32)
    (found : (slot_of shown address).start ≡ page_start address)
    (there : slice_get pages (slot_of shown address).frame ≡ Some (Some page)) where
  -- a code in the page that a fetch finds is the word there
  pub word-there : (code : ℕ) → IsCodeIn (whole page) (address % 4096) code
      → word_in (run_answers s places) m address ≡ Ok code
  word-there code (inl lone) =
      word-alone (run_answers s places) m address code
      (half-in s places m pages shown address address page are frames fits refl even found fits
      there ∙ ap Ok (sym lone.1)) lone.0
  word-there code (inr pair) =
      let bytes : List ℕ = drop (address % 4096) (whole page) in
      let low : ℕ = number_of (take 2 bytes) in
      let high : ℕ = number_of (take 2 (drop 2 bytes)) in
      let is : code ≡ low + 2 ^ 16 * high = pair.2 ∙ number-four bytes in
      let after : ℕ = (address + 2) % 2 ^ 32 in
      let room = pair.1 in
      let full = pair.0 in
      let next : after ≡ address + 2 = omega (arith, even, fits, room) in
      let number : after / 4096 ≡ address / 4096 = omega (arith, next, room) in
      let offset : address % 4096 + 2 ≡ after % 4096 = omega (arith, next, room) in
      word-both (run_answers s places) m address low high
      (half-in s places m pages shown address address page are frames fits refl even found fits
      there)
      (omega (arith, is, full))
      (half-in s places m pages shown address after page are frames
      (omega (arith, next, fits, room)) number (omega (arith, next, even)) found fits there
      ∙ ap (λ (k : ℕ). Ok (number_of (take 2 (drop k (whole page))))) (sym offset)
      ∙ ap (λ (xs : List ℕ). Ok (number_of (take 2 xs)))
      (sym (drop-drop 2 (address % 4096) (whole page))))
      ∙ ap Ok (sym is)

-- ---- lines

-- At this address stands the code of this line.
pub record StandsThere {M : Type 0} (known : Known) (answers : MemoryAnswers M) (m : M)
    (address at : ℕ) (line : Line) : Type 0 where
  pub page : CodePage
  pub is : IsCodeLine known.lines page.bytes at line
  pub word : word_in answers m address ≡ Ok is.code

got-map : {A B : Type 0} (f : A → B) (xs : List A) (i : ℕ) (x : A) → slice_get xs i ≡ Some x
    → slice_get (map f xs) i ≡ Some (f x)
got-map f [] i x h = cc
got-map f (y ∷ xs) zero x h = ap (λ (z : _). Some (f z)) (Some-same h)
got-map f (y ∷ xs) (suc i) x h = got-map f xs i x h

-- the line with which the code at an offset begins
line-stands : (known : Known) (place offset at : ℕ) → AreKnownPages known → offset % 2 ≡ 0
    → 0 < at → (start : IsStartIn known place offset at) → IsLineAt known.lines start.page offset at
line-stands known place offset zero are even some start = absurd (omega (arith, some))
line-stands known place offset (suc k) are even some start =
    line-of-start known place offset k start.page are start.is even start.begins

-- At an address whose block has been compared the code of its line is fetched, unless that is
-- stale.
pub line-word : {F M : Type 0} (places : F → Places M) (now : Still) (fixed_now : F) (state : M)
    (pages : List (Option (List ℕ))) (slots shown : List Slot) (compared : List Bool)
    (f : Still × F) (known : Known) (m : M) (address at : ℕ) (line : Line) → AreAmong slots shown
    → ShowsKnown now fixed_now state pages slots compared (f, bytes_of_pages known) m
    → (places fixed_now).bytes state ≡ joined pages
    → AreFramesOf now.thread now.owners now.entries Fetch shown → AreKnownPages known
    → IsLineFor shown compared known address at → 0 < at → address % 2 ≡ 0 → address < 2 ^ 32
    → slice_get known.lines at ≡ Some line → 0 < line.size
    → StandsThere known (run_answers f.0 (places f.1)) m address at line
line-word {F} {M} places now fixed_now state pages slots shown compared f known m address at line
    kept s
    bytes_are
    frames are for some even fits there live =
    let right = keeps-among slots shown compared pages kept (bytes_of_pages known) s.right address
    fits for.compared_is in
    let start = for.start in
    let offset : ℕ = address % 4096 in
    let two : offset % 2 ≡ 0 = omega (arith, even) in
    let stands = line-stands known (code_place address) offset at are two some start in
    let same : stands.line ≡ line = Some-same (sym stands.is ∙ there) in
    let is : IsCodeLine known.lines start.page.bytes at line =
    subst (λ (l : Line). 0 < l.size → IsCodeLine known.lines start.page.bytes at l) same
    stands.knows live in
    let begins : line.offset ≡ offset =
    ap (λ (l : Line). l.offset) (sym same) ∙ stands.there in
    let own : start.page.bytes ≡ right.own = Some-same (Some-same
    (sym (got-map (λ page. option_map (λ (p : CodePage). p.bytes) page) known.pages
    (code_place address) (Some start.page) start.is) ∙ right.here)) in
    let size : length right.own ≡ 4096 =
    ap (λ (xs : List ℕ). length xs) (sym own)
    ∙ (are.each (code_place address) start.page start.is).bytes in
    record {
      page = start.page;
      is = is;
      word = as-shown places now fixed_now state f m
          (λ (answers : MemoryAnswers M) (u : M). word_in answers u address ≡ Ok is.code) s.shows
          (word-there now (places fixed_now) state pages shown address right.page bytes_are frames
          even fits for.compared_is.found right.there is.code
          (code-around right.own (whole right.page) offset is.code size
          (length-whole right.page) two (omega arith) right.same
          (subst (λ (xs : List ℕ). IsCodeIn xs offset is.code) own
          (subst (λ (o : ℕ). IsCodeIn start.page.bytes o is.code) begins is.stands))));
    }
