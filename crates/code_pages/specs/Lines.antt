-- Lines: which line follows one, and at which line the code of a page begins that stands at an
-- offset. This project's own rules.
use Rattle.std.specs.Prelude.{ℕ, suc, ◌≡◌, ◌≢◌, ◌+◌, ◌*◌, ◌/◌, ◌<◌, ◌≤◌, ◌⊎◌, true, false, List, []}
use Rattle.std.specs.Prelude.{Option, Some, None, option_map, map, length, slice_get, slice_index}
use Rattle.std.specs.Prelude.{replicate, slice_index_or, unwrap_or, take, drop}
use Rattle.dos_world.specs.Bytes.{written, zero_page}
use Rattle.rv_form.specs.Forms.{IsFormOf}
use Rattle.code_pages.specs.declared.kind.Kind.TheVariants as kind
use Rattle.code_pages.specs.declared.line.Line.{Line}
use Rattle.code_pages.specs.Codes.{IsCodeIn, code_size}
use Rattle.code_pages.specs.Kinds.{ends}

-- ---- runs

-- A line stands behind the one at this place, and fewer lines follow it until the end of the run.
pub record HasNextLine (lines : List Line) (at : ℕ) (line : Line) : Type 0 where
  pub next : Line
  pub is : slice_get lines (suc at) ≡ Some next
  pub run : next.run < line.run

-- Behind each line at which no run ends stands one.
abbrev pub AreRuns : List Line → Type 0
AreRuns lines = (at : ℕ) (line : Line) → slice_get lines at ≡ Some line → ends line.kind ≡ false
    → HasNextLine lines at line

-- Behind each line that counts lines behind it stands one, even where a run ends at it for now.
abbrev pub AreRunsCounted : List Line → Type 0
AreRunsCounted lines = (at : ℕ) (line : Line) → slice_get lines at ≡ Some line → 0 < line.run
    → HasNextLine lines at line

-- how many lines each line counts behind it
abbrev pub runs_of : List Line → List ℕ
runs_of lines = map (λ (line : Line). line.run) lines

-- ---- the lines of a page

-- What is known of a page: its bytes, and for each halfword the line of the code that begins there,
-- 0 for none.
pub record CodePage : Type 0 where
  pub bytes : List ℕ
  pub starts : List ℕ

-- the line of the code that begins at an even offset, 0 for none
abbrev pub start_at : CodePage → ℕ → ℕ
start_at page offset = slice_index page.starts (offset / 2)

-- the page with no line known
abbrev pub unlearnt : CodePage → CodePage
unlearnt page = record page { starts = replicate 2048 0 }

-- Behind the line at this place stands one at which a run ends, or at which a code of the page
-- begins. Where one begins it does so in the same block of 256 bytes.
pub record IsFollowed (lines : List Line) (page : CodePage) (at : ℕ) (line : Line) : Type 0 where
  pub next : Line
  pub is : slice_get lines (suc at) ≡ Some next
  pub begins : (next.kind ≡ kind.End) ⊎ (start_at page next.offset ≡ suc at)
  pub block : start_at page next.offset ≡ suc at → next.offset / 256 ≡ line.offset / 256

-- The line behind this place begins at this offset.
pub record IsBehind (lines : List Line) (at offset : ℕ) : Type 0 where
  pub next : Line
  pub is : slice_get lines (suc at) ≡ Some next
  pub offset_is : next.offset ≡ offset

-- The line is that of the code that stands at its offset, and the line behind it, where it goes on,
-- that of the code behind this one.
pub record IsCodeLine (lines : List Line) (bytes : List ℕ) (at : ℕ) (line : Line) : Type 0 where
  pub code : ℕ
  pub stands : IsCodeIn bytes line.offset code
  pub form : IsFormOf code line.form
  pub size : line.size ≡ code_size code
  pub goes : ends line.kind ≡ false → IsBehind lines at (line.offset + line.size)

-- Lines follow this one, or did before its code changed.
abbrev pub IsGoing : Line → Type 0
IsGoing line = (ends line.kind ≡ false) ⊎ (0 < line.run)

-- The line at which the code of a page begins that stands at an offset: that of the code, or, where
-- the code has changed since, a stale one, of size 0.
pub record IsLineAt (lines : List Line) (page : CodePage) (offset at : ℕ) : Type 0 where
  pub line : Line
  pub is : slice_get lines at ≡ Some line
  pub there : line.offset ≡ offset
  pub knows : 0 < line.size → IsCodeLine lines page.bytes at line
  pub followed : IsGoing line → IsFollowed lines page at line

-- Each line at which a page says that its code begins is the one of that code, or a stale one.
pub record IsKnownPage (lines : List Line) (page : CodePage) : Type 0 where
  pub bytes : length page.bytes ≡ 4096
  pub starts : length page.starts ≡ 2048
  pub each : (half at : ℕ) → slice_get page.starts half ≡ Some (suc at)
      → IsLineAt lines page (half + half) (suc at)

-- ---- lines that change

-- The line is the same but for how many it counts behind it, or it is stale.
abbrev pub IsSameOrStale : (now line : Line) → Type 0
IsSameOrStale now line = ((now.kind ≡ kind.End) × (now.size ≡ 0))
    ⊎ ((now.kind ≡ line.kind) × (now.size ≡ line.size) × (now.form ≡ line.form))

-- What became of a line: the same, or stale.
pub record StaysLine (lines : List Line) (at : ℕ) (line : Line) : Type 0 where
  pub now : Line
  pub is : slice_get lines at ≡ Some now
  pub offset : now.offset ≡ line.offset
  pub run : now.run ≡ line.run
  pub same : IsSameOrStale now line

-- Each line is the same, or stale; others may have come.
abbrev pub KeepsLines : (old new : List Line) → Type 0
KeepsLines old new = (at : ℕ) (line : Line) → slice_get old at ≡ Some line → StaysLine new at line

-- What became of a line: the same but for how many it counts behind it.
pub record IsSameCode (lines : List Line) (at : ℕ) (line : Line) : Type 0 where
  pub now : Line
  pub is : slice_get lines at ≡ Some now
  pub offset : now.offset ≡ line.offset
  pub kind : now.kind ≡ line.kind
  pub size : now.size ≡ line.size
  pub form : now.form ≡ line.form

-- Each line is the same but for how many it counts behind it.
abbrev pub AreSameCodes : (old new : List Line) → Type 0
AreSameCodes old new = (at : ℕ) (line : Line) → slice_get old at ≡ Some line
    → IsSameCode new at line

-- The lines before this place are the same.
abbrev pub AreSameBelow : ℕ → (old new : List Line) → Type 0
AreSameBelow n old new = (at : ℕ) → at < n → slice_get new at ≡ slice_get old at

-- Each other line is the same.
abbrev pub AreSameBut : ℕ → (old new : List Line) → Type 0
AreSameBut place old new = (at : ℕ) → at ≢ place → slice_get new at ≡ slice_get old at

-- The line at this place is stale.
pub record IsStaleAt (lines : List Line) (at : ℕ) : Type 0 where
  pub line : Line
  pub is : slice_get lines at ≡ Some line
  pub kind : line.kind ≡ kind.End
  pub size : line.size ≡ 0

-- The line at this place is that of a code.
pub record IsLiveAt (lines : List Line) (at : ℕ) : Type 0 where
  pub line : Line
  pub is : slice_get lines at ≡ Some line
  pub size : 0 < line.size

-- No line came, each is the same or became stale, the first the same.
pub record AreLinesKept (old new : List Line) : Type 0 where
  pub runs : runs_of new ≡ runs_of old
  pub keeps : KeepsLines old new
  pub first : slice_get new 0 ≡ slice_get old 0

-- The line of the code that begins at a halfword, if there is one, is stale.
abbrev pub IsUnlearnt : List Line → CodePage → (half : ℕ) → Type 0
IsUnlearnt lines page half = (at : ℕ) → slice_get page.starts half ≡ Some (suc at)
    → IsStaleAt lines (suc at)

-- The last line is an end at this halfword; the line before it, if it goes on to it, begins in this
-- block.
pub record IsMarked (lines : List Line) (block half : ℕ) : Type 0 where
  pub last : ℕ
  pub count : length lines ≡ suc last
  pub line : Line
  pub is : slice_get lines last ≡ Some line
  pub kind : line.kind ≡ kind.End
  pub run : line.run ≡ 0
  pub offset : line.offset ≡ half + half
  pub before : (at : ℕ) (line : Line) → suc at ≡ last → slice_get lines at ≡ Some line
      → IsGoing line → line.offset / 256 ≡ block

-- Each line from a place on isn't stale, and each but the last one goes on.
abbrev pub AreFreshFrom : ℕ → List Line → Type 0
AreFreshFrom first lines = (at : ℕ) (line : Line) → slice_get lines at ≡ Some line → first ≤ at
    → (0 < line.size) × (suc at < length lines → ends line.kind ≡ false)

-- Each start is an old one, or one of the lines from a place on.
abbrev pub AreStartsFrom : ℕ → (old new : List ℕ) → Type 0
AreStartsFrom n old new = (half at : ℕ) → slice_get new half ≡ Some (suc at)
    → (slice_get old half ≡ Some (suc at)) ⊎ (n ≤ suc at)

-- a run ends at the last line
abbrev pub LastEnds : List Line → Type 0
LastEnds lines = (at : ℕ) (line : Line) → slice_get lines at ≡ Some line → suc at ≡ length lines
    → ends line.kind ≡ true

-- Each line from a place on has as its run how many lines stand behind it.
abbrev pub AreRunsCountedFrom : ℕ → List Line → Type 0
AreRunsCountedFrom first lines = (at : ℕ) (line : Line) → slice_get lines at ≡ Some line
    → first ≤ at
    → line.run + suc at ≡ length lines

-- ---- bytes that change

-- The bytes are the same from one place up to another.
abbrev pub AreSameIn : (from end : ℕ) → (old new : List ℕ) → Type 0
AreSameIn from end old new = (i : ℕ) → from ≤ i → i < end → slice_index old i ≡ slice_index new i

-- From one place up to another the bytes are these, and the others are the old ones.
pub record IsWrittenIn (from end : ℕ) (old new bytes : List ℕ) : Type 0 where
  pub inside : AreSameIn from end new bytes
  pub outside : (i : ℕ) → (i < from) ⊎ (end ≤ i) → slice_index new i ≡ slice_index old i

-- the bytes with a block of 256 bytes, and the halfword behind it, as they are in these
abbrev pub with_block : List ℕ → (block : ℕ) → List ℕ → List ℕ
with_block old block bytes = written old (256 * block) (take 258 (drop (256 * block) bytes))

-- ---- all pages

-- the lines of all pages, and the pages by their places
pub record Known : Type 0 where
  pub lines : List Line
  pub pages : List (Option CodePage)

-- the bytes of the page at a place
abbrev pub bytes_of_page : Option CodePage → Option (List ℕ)
bytes_of_page page = option_map (λ (p : CodePage). p.bytes) page

-- the bytes of each page
abbrev pub bytes_of_pages : Known → List (Option (List ℕ))
bytes_of_pages known = map bytes_of_page known.pages

-- the bytes of the page at a place, zeros where none is known there
abbrev pub page_bytes_at : Known → (place : ℕ) → List ℕ
page_bytes_at known place = unwrap_or (slice_index_or (bytes_of_pages known) place None) zero_page

-- the starts of the page in a slot
abbrev pub starts_of_slot : Option CodePage → List ℕ
starts_of_slot None = []
starts_of_slot (Some page) = page.starts

-- the line of the code that begins at an even offset of the page in a slot, 0 for none
abbrev pub start_in : Option CodePage → ℕ → ℕ
start_in None offset = 0
start_in (Some page) offset = start_at page offset

-- the slot at a place
abbrev pub slot_at : Known → (place : ℕ) → Option CodePage
slot_at known place = slice_index_or known.pages place None

-- the page in a slot, zeros where there is none
abbrev pub page_of_slot : Option CodePage → CodePage
page_of_slot None = record { bytes = zero_page; starts = replicate 2048 0 }
page_of_slot (Some page) = page

-- Each line belongs to the page at one place: those that begin codes there, and those that follow.
pub record HaveHomes (lines : List Line) (pages : List (Option CodePage)) : Type 0 where
  pub home : ℕ → ℕ
  pub starts : (place half at : ℕ) (page : CodePage) → slice_get pages place ≡ Some (Some page)
      → slice_get page.starts half ≡ Some (suc at) → home (suc at) ≡ place
  pub runs : (at : ℕ) (line : Line) → slice_get lines at ≡ Some line → 0 < line.run
      → home (suc at) ≡ home at

-- What holds of the lines and pages that are known: there are 256 places or none; each page at one
-- is known; the first line is an end, and each line stands in a run.
pub record AreKnownPages (known : Known) : Type 0 where
  pub each : (place : ℕ) (page : CodePage) → slice_get known.pages place ≡ Some (Some page)
      → IsKnownPage known.lines page
  pub runs : AreRuns known.lines
  pub counted : AreRunsCounted known.lines
  pub homes : HaveHomes known.lines known.pages
  pub first : (line : Line) → slice_get known.lines 0 ≡ Some line
      → (line.kind ≡ kind.End) × (line.run ≡ 0)
  pub few : length known.lines ≤ 16384
  pub places : (length known.pages ≡ 0)
      ⊎ ((length known.pages ≡ 256) × (0 < length known.lines))

-- For each halfword of the page at a place, this is the line of the code that begins there, or 0.
pub record AreStartsOf (known : Known) (place : ℕ) (starts : List ℕ) : Type 0 where
  pub page : CodePage
  pub is : slice_get known.pages place ≡ Some (Some page)
  pub are : page.starts ≡ starts

-- The code at this offset of the page at a place begins with this line.
pub record IsStartIn (known : Known) (place offset at : ℕ) : Type 0 where
  pub page : CodePage
  pub is : slice_get known.pages place ≡ Some (Some page)
  pub begins : start_at page offset ≡ at
