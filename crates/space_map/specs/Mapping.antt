-- What a space holds: its entries in rising page, and its room. This project's own rules.
use Rattle.std.specs.Prelude.{◌≡◌, ◌<◌, ◌≤◌, ◌+◌, ◌^◌, ℕ, zero, suc, Bool, true, false, not, ◌&&◌}
use Rattle.std.specs.Prelude.{◌||◌, nat_le, nat_lt, List, [], length, map, filter, IsSome, ◌==◌}
use Rattle.std.specs.Prelude.{slice_index_or, if◌then◌else◌}
use Rattle.std.specs.List.Sorted.{IsStrictlyIncreasing}
use Rattle.dos_world.specs.declared.Entry.{Entry}
use Rattle.dos_world.specs.Kernel.{put}
use Rattle.dos_world.specs.World.{look}
use Rattle.dos_world.specs.MemoryCalls.{share_if}

-- the pages with their entries, and how many there may be
pub record Mapping : Type 0 where
  pub entries : List (ℕ × Entry)
  pub room : ℕ

abbrev pub empty : ℕ → Mapping
empty room = record { entries = []; room = room }

-- each page is above the one before it
abbrev pub IsRising : List (ℕ × Entry) → Type 0
IsRising entries = IsStrictlyIncreasing (map (λ e. e.0) entries)

abbrev pub IsMapped : List (ℕ × Entry) → ℕ → Type 0
IsMapped entries page = IsSome (look entries page)

-- the entries of the other pages
abbrev pub all_but : ℕ → List (ℕ × Entry) → List (ℕ × Entry)
all_but page entries = filter (λ e. not (e.0 == page)) entries

-- an entry that is shared where it is this page's
abbrev pub marked : ℕ → (ℕ × Entry) → (ℕ × Entry)
marked page e = (e.0, record e.1 { shared = (e.0 == page) || e.1.shared })

abbrev pub with_page_shared : ℕ → List (ℕ × Entry) → List (ℕ × Entry)
with_page_shared page entries = map (marked page) entries

-- an entry, or this one in its place where it is this page's
abbrev pub replaced : ℕ → Entry → (ℕ × Entry) → (ℕ × Entry)
replaced page entry e = (e.0, if e.0 == page then entry else e.1)

abbrev pub with_replaced : ℕ → Entry → List (ℕ × Entry) → List (ℕ × Entry)
with_replaced page entry entries = map (replaced page entry) entries

-- ---- runs of pages

-- so many pages from this one on put into a space, one after another, each with this entry
abbrev pub put_run : ℕ → ℕ → Entry → List (ℕ × Entry) → List (ℕ × Entry)
put_run page zero entry entries = entries
put_run page (suc count) entry entries = put_run (suc page) count entry (put page entry entries)

-- whether an entry is of one of so many pages from this one on
abbrev pub in_run : ℕ → ℕ → (ℕ × Entry) → Bool
in_run page count e = nat_le page e.0 && nat_lt e.0 (page + count)

-- the entries of the other pages
abbrev pub without_run : ℕ → ℕ → List (ℕ × Entry) → List (ℕ × Entry)
without_run page count entries = filter (λ e. not (in_run page count e)) entries

-- an entry that is shared where it is of one of these pages
abbrev pub shared_in_run : ℕ → ℕ → (ℕ × Entry) → ℕ × Entry
shared_in_run page count e = (e.0, share_if (in_run page count e) e.1)

abbrev pub with_shared_run : ℕ → ℕ → List (ℕ × Entry) → List (ℕ × Entry)
with_shared_run page count entries = map (shared_in_run page count) entries

-- ---- what a space keeps

abbrev pub no_entry : Entry
no_entry = record { frame = 0; write = false; exec = false; shared = false }

abbrev pub page_of_entry : List (ℕ × Entry) → ℕ → ℕ
page_of_entry entries place = let e : ℕ × Entry = slice_index_or entries place (0, no_entry) in e.0

-- the pages rise, the entries have room, and the room was taken
pub record IsKept (entries : List (ℕ × Entry)) (room capacity : ℕ) : Type 0 where
  pub rising : (i j : ℕ) → i < j → j < length entries
      → page_of_entry entries i < page_of_entry entries j
  pub fits : length entries ≤ room
  pub taken : room ≤ capacity
  pub few : room < 2 ^ 32

-- the page's entry stands at this place
pub record IsAt (entries : List (ℕ × Entry)) (page place : ℕ) : Type 0 where
  pub within : place < length entries
  pub is : page_of_entry entries place ≡ page

-- the page would stand at this place: lower pages before it, and higher ones from it on
pub record IsGapFor (entries : List (ℕ × Entry)) (page place : ℕ) : Type 0 where
  pub within : place ≤ length entries
  pub lower : (i : ℕ) → i < place → page_of_entry entries i < page
  pub higher : (i : ℕ) → place ≤ i → i < length entries → page < page_of_entry entries i

-- the pages before this place are below this one, and the others aren't
pub record IsFirstFrom (entries : List (ℕ × Entry)) (page place : ℕ) : Type 0 where
  pub within : place ≤ length entries
  pub lower : (i : ℕ) → i < place → page_of_entry entries i < page
  pub higher : (i : ℕ) → place ≤ i → i < length entries → page ≤ page_of_entry entries i

-- from the first place up to the end there are pages of the run, and at the end there is none
pub record IsRun (entries : List (ℕ × Entry)) (page count first end : ℕ) : Type 0 where
  pub rises : first ≤ end
  pub within : end ≤ length entries
  pub inside : (i : ℕ) → first ≤ i → i < end
      → in_run page count (slice_index_or entries i (0, no_entry)) ≡ true
  pub ends : end < length entries
      → in_run page count (slice_index_or entries end (0, no_entry)) ≡ false
