-- Frames that are taken one after another from the lowest on, each mapped as a page of one process.
-- This project's own rule.
use Rattle.std.specs.Prelude.{◌≡◌, ◌<◌, ◌≤◌, ℕ, ◌+◌, ◌-◌, ◌*◌, List, ◌++◌, length, replicate, Some}
use Rattle.std.specs.Prelude.{[], false, All, IsSome, flat_map, position}
use Rattle.dos_world.specs.World.{Holdings, is_free}
use Rattle.dos_world.specs.declared.Entry.{Entry}
use Rattle.dos_world.specs.declared.Owner.{Owner}
use Rattle.dos_world.specs.declared.Owner.TheVariants.{Free, Of}
use Rattle.page_store.specs.Store.{Store, joined, whole, with_home, with_owned}
use Rattle.dos_world.specs.Numbered.{map_from}
use Rattle.elf_image.specs.Image.{Image}
use Rattle.flat_machine.specs.Opening.{image_bytes, page_bytes, page_count, part_entry, space_from}
use Rattle.flat_machine.specs.Opening.{stack_entry}
use Rattle.proc_table.specs.Tables.{Tables, held_by, held_in}

-- whether an owner is some
abbrev pub IsOwnedBySome : Owner → Type 0
IsOwnedBySome owner = is_free owner ≡ false

-- The first frames have these owners, one use each, and these bytes. The others are Free and zero.
-- No owner is marked.
pub record IsFilled (s : Store) (bytes : List ℕ) (owners : List Owner) : Type 0 where
  pub home : All IsSome s.pages
  pub within : length owners ≤ length s.pages
  pub sized : length bytes ≡ 4096 * length owners
  pub taken : All IsOwnedBySome owners
  pub bytes_are : joined s.pages ≡ bytes ++ replicate (4096 * (length s.pages - length owners)) 0
  pub owners_are : s.owners ≡ owners ++ replicate (length s.pages - length owners) Free
  pub uses_are : s.uses ≡ replicate (length owners) 1
      ++ replicate (length s.pages - length owners) 0
  pub unmarked : s.marked ≡ []

-- so many frames more may be taken
pub record HasFrames (s : Store) (more : ℕ) : Type 0 where
  pub bytes : List ℕ
  pub owners : List Owner
  pub filled : IsFilled s bytes owners
  pub room : length owners + more ≤ length s.pages

-- the lowest Free frame became t's, and its page shows these bytes
pub record TakesFrame (old new : Store) (t frame : ℕ) (bytes : List ℕ) : Type 0 where
  pub lowest : position is_free old.owners ≡ Some frame
  pub page : List ℕ
  pub shows : whole page ≡ bytes
  pub becomes : new ≡ with_home (with_owned old frame t) frame page

-- what a process has, with these entries behind its others
abbrev pub with_entries_more : List (ℕ × Entry) → Holdings → Holdings
with_entries_more entries h = record h { space = h.space ++ entries }

-- Frames were taken, with these bytes and owners; the process has the entries of the pages that
-- they are, the first of them in the frame of the given number.
pub record Opens (old new : Store) (before after : Tables) (pid : ℕ) (entries : ℕ
    → List (ℕ × Entry)) (bytes : List ℕ) (owners : List Owner) : Type 0 where
  pub count : length new.pages ≡ length old.pages
  pub fills : (bytes_before : List ℕ) (owners_before : List Owner)
      → IsFilled old bytes_before owners_before
      → IsFilled new (bytes_before ++ bytes) (owners_before ++ owners)
  pub maps : (bytes_before : List ℕ) (owners_before : List Owner)
      → IsFilled old bytes_before owners_before
      → after ≡ held_by (with_entries_more (entries (length owners_before))) before pid

-- the process lives, all its pages are below this one, and its space has room for so many more
pub record HasPlace (t : Tables) (pid page more : ℕ) : Type 0 where
  pub held : Holdings
  pub is : held_in t.processes pid ≡ Some held
  pub below : All (λ e. e.0 < page) held.space
  pub room : length held.space + more ≤ t.room

-- ---- the pages of an image

-- these pages of the image's parts were opened
abbrev pub OpensParts : (old new : Store) → (before after : Tables) → (pid tid : ℕ) → Image → List ℕ
    → Type 0
OpensParts old new before after pid tid image pages =
    Opens old new before after pid (λ n. map_from n (part_entry image) pages)
    (flat_map (page_bytes image) pages) (replicate (length pages) (Of tid))

-- these pages of a stack were opened
abbrev pub OpensStack : (old new : Store) → (before after : Tables) → (pid tid : ℕ) → List ℕ
    → Type 0
OpensStack old new before after pid tid pages =
    Opens old new before after pid (λ n. map_from n stack_entry pages)
    (replicate (4096 * length pages) 0) (replicate (length pages) (Of tid))

-- all pages of the image were opened
abbrev pub OpensImage : (old new : Store) → (before after : Tables) → (pid tid : ℕ) → Image → Type 0
OpensImage old new before after pid tid image =
    Opens old new before after pid (space_from image) (image_bytes image)
    (replicate (page_count image) (Of tid))
