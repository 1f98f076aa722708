-- What the frames hold, and the one list of bytes that their pages make. This project's own rules.
use Rattle.std.specs.Prelude.{◌≡◌, ◌≢◌, ◌<◌, ◌≤◌, ℕ, ◌+◌, ◌-◌, ◌^◌, Bool, List, [], ◌∷◌, ◌++◌, map}
use Rattle.std.specs.Prelude.{take, drop, replicate, length, Option, Some, None, false, true}
use Rattle.std.specs.Prelude.{IsSome, All, count_by, slice_set, slice_get, slice_index}
use Rattle.std.specs.Prelude.{slice_index_or, ◌==◌, if◌then◌else◌}
use Rattle.dos_world.specs.declared.Owner.{Owner}
use Rattle.dos_world.specs.declared.Owner.TheVariants.{Of, Free}
use Rattle.dos_world.specs.declared.Access.{Access}
use Rattle.dos_world.specs.declared.Size.{Size}
use Rattle.dos_world.specs.World.{is_free}
use Rattle.dos_world.specs.Kernel.{zero_page}
use Rattle.dos_world.specs.Reach.{granted, number_of, width}

-- Per frame a page, which is None while it is away, an owner and a number of uses; and the owners
-- as they were when marked, none where nothing is marked. Frames are numbered from 0.
pub record Store : Type 0 where
  pub pages : List (Option (List ℕ))
  pub owners : List Owner
  pub uses : List ℕ
  pub marked : List Owner

-- ---- pages

-- the 4096 bytes that a page shows, whatever its list
unfoldable pub whole : List ℕ → List ℕ
whole page = take 4096 (page ++ replicate 4096 0)

-- a page that is away shows zeros
abbrev pub shown : Option (List ℕ) → List ℕ
shown None = whole []
shown (Some page) = whole page

-- the pages one after another, in frame order
unfoldable pub joined : List (Option (List ℕ)) → List ℕ
joined [] = []
joined (page ∷ pages) = shown page ++ joined pages

-- the little-endian number of this size at an offset
abbrev pub number_at : List ℕ → ℕ → Size → ℕ
number_at bytes offset size = number_of (take (width size) (drop offset bytes))

-- ---- looking up

abbrev pub IsHome : Store → ℕ → Type 0
IsHome s frame = (page : List ℕ) × (slice_get s.pages frame ≡ Some (Some page))

abbrev pub IsAway : Store → ℕ → Type 0
IsAway s frame = slice_get s.pages frame ≡ Some None

abbrev pub AreHome : Store → Type 0
AreHome s = All IsSome s.pages

abbrev pub owner_at : Store → ℕ → Owner
owner_at s frame = slice_index_or s.owners frame Free

abbrev pub IsOwned : Store → ℕ → Type 0
IsOwned s frame = is_free (owner_at s frame) ≡ false

abbrev pub is_unused : ℕ → Bool
is_unused uses = uses == 0

abbrev pub uses_at : Store → ℕ → ℕ
uses_at s frame = slice_index s.uses frame

-- a frame that is there and has no use
pub record IsUnused (s : Store) (frame : ℕ) : Type 0 where
  pub none : uses_at s frame ≡ 0
  pub within : frame < length s.uses

abbrev pub free_count : Store → ℕ
free_count s = count_by is_free s.owners

-- What the frames keep beside the lists. A frame is Free exactly where it has no use; free is the
-- count of Free owners, and frames says of each whether it is Free.
pub record AreTallied (count : ℕ) (owners : List Owner) (uses : List ℕ) (free : ℕ)
    (frames : List Bool) : Type 0 where
  pub few : count < 2 ^ 32
  pub each : length owners ≡ count
  pub agree : map is_free owners ≡ map is_unused uses
  pub counted : free ≡ count_by is_free owners
  pub frames_are : frames ≡ map is_free owners

-- each frame from this one on is Free
abbrev pub AreFreeFrom : List Owner → ℕ → Type 0
AreFreeFrom owners high = (frame : ℕ) → high ≤ frame
    → is_free (slice_index_or owners frame Free) ≡ true

-- ---- changing

-- this many frames with zero pages, all home, Free and without uses
abbrev pub unused_frames : ℕ → Store
unused_frames count = record {
  pages = replicate count (Some zero_page);
  owners = replicate count Free;
  uses = replicate count 0;
  marked = [];
}

abbrev pub with_home : Store → ℕ → List ℕ → Store
with_home s frame page = record s { pages = slice_set s.pages frame (Some page) }

abbrev pub with_away : Store → ℕ → Store
with_away s frame = record s { pages = slice_set s.pages frame None }

abbrev pub with_grant : Store → ℕ → ℕ → Access → Store
with_grant s frame t access = record s { owners = slice_set s.owners frame (granted t access) }

-- the frame is t's, with one use; its page stays
abbrev pub with_owned : Store → ℕ → ℕ → Store
with_owned s frame t = record s {
  owners = slice_set s.owners frame (Of t);
  uses = slice_set s.uses frame 1;
}

abbrev pub with_use_more : Store → ℕ → Store
with_use_more s frame = record s { uses = slice_set s.uses frame (uses_at s frame + 1) }

-- zeros in place of a page that is home
abbrev pub zeroed : Option (List ℕ) → Option (List ℕ)
zeroed None = None
zeroed (Some page) = Some zero_page

-- the frame's page, None while it is away
abbrev pub page_at : Store → ℕ → Option (List ℕ)
page_at s frame = slice_index_or s.pages frame None

-- one use less, and at none Free and zero
abbrev pub with_less : Store → ℕ → Store
with_less s frame = record {
  pages = if uses_at s frame == 1 then slice_set s.pages frame (zeroed (page_at s frame))
      else s.pages;
  owners = if uses_at s frame == 1 then slice_set s.owners frame Free else s.owners;
  uses = slice_set s.uses frame (uses_at s frame - 1);
  marked = s.marked;
}

-- ---- marking owners

-- the owner that was marked
abbrev pub marked_at : Store → ℕ → Owner
marked_at s frame = slice_index_or s.marked frame Free

-- as many frames as before, and marked as before
pub record KeepsFrames (old new : Store) : Type 0 where
  pub count : length new.owners ≡ length old.owners
  pub marked : new.marked ≡ old.marked

-- the owners of all frames are marked
abbrev pub AreMarked : Store → Type 0
AreMarked s = length s.marked ≡ length s.owners

abbrev pub with_marks : Store → Store
with_marks s = record s { marked = s.owners }

-- the frame's owner is marked anew
abbrev pub with_settled : Store → ℕ → Store
with_settled s frame = record s { marked = slice_set s.marked frame (owner_at s frame) }

-- the lowest frame whose owner isn't the one that was marked
pub record IsFirstChanged (marked owners : List Owner) (frame : ℕ) : Type 0 where
  pub within : frame < length owners
  pub differs : slice_index_or marked frame Free ≢ slice_index_or owners frame Free
  pub below : (other : ℕ) → other < frame
      → slice_index_or marked other Free ≡ slice_index_or owners other Free

-- ---- all parts

-- for each frame an owner and a number of uses, and it is Free exactly where it has no use
pub record AreParts (pages : List (Option (List ℕ))) (owners : List Owner) (uses : List ℕ) : Type 0
  where
    pub few : length pages < 2 ^ 32
    pub each : length owners ≡ length pages
    pub agree : map is_free owners ≡ map is_unused uses

-- these, nothing marked
abbrev pub store_from : List (Option (List ℕ)) → List Owner → List ℕ → Store
store_from pages owners uses =
    record { pages = pages; owners = owners; uses = uses; marked = [] }

-- ---- copying a page

abbrev pub IsHomeIn : List (Option (List ℕ)) → ℕ → Type 0
IsHomeIn pages frame = (page : List ℕ) × (slice_get pages frame ≡ Some (Some page))

-- the bytes of a page, by its frame
abbrev pub shown_at : List (Option (List ℕ)) → ℕ → List ℕ
shown_at pages frame = shown (slice_index_or pages frame None)

-- one page has the bytes of another, and the rest stays
pub record IsPageCopied (pages : List (Option (List ℕ))) (from frame : ℕ)
    (new : List (Option (List ℕ))) : Type 0 where
  pub page : List ℕ
  pub pages_are : new ≡ slice_set pages frame (Some page)
  pub bytes : whole page ≡ shown_at pages from

-- a frame that had no use is t's, with the bytes of another frame and one use
pub record IsCopied (s : Store) (from frame t : ℕ) (new : Store) : Type 0 where
  pub pages : IsPageCopied s.pages from frame new.pages
  pub owners : new.owners ≡ slice_set s.owners frame (Of t)
  pub uses : new.uses ≡ slice_set s.uses frame 1
  pub marked : new.marked ≡ s.marked
  pub unused : uses_at s frame ≡ 0
  pub within : frame < length s.uses
