-- Frames and a table set into a world. This project's own rules.
use Rattle.std.specs.Prelude.{◌≡◌, ◌⊎◌, ◌/◌, ◌<◌, ℕ, Bool, List, [], length, true, false, Option}
use Rattle.std.specs.Prelude.{None, Some}
use Rattle.std.specs.Prelude.{IsSome, IfSome, All, slice_index_or, if◌then◌else◌}
use Rattle.dos_world.specs.World.{World, is_free, look}
use Rattle.dos_world.specs.Reach.{has_right, is_foreign}
use Rattle.dos_world.specs.declared.Access.{Access}
use Rattle.dos_world.specs.declared.Entry.{Entry}
use Rattle.dos_world.specs.declared.Owner.TheVariants.{Free, Of}
use Rattle.page_store.specs.Store.{KeepsFrames, Store, joined, owner_at, with_grant}
use Rattle.proc_table.specs.Tables.{Tables, thread_in, held_in, IsLiveThread, IsProcess}

-- the world with the bytes and owners of these frames, and the processes and threads of this table
abbrev pub in_world : World → Store → Tables → World
in_world w s table = record w {
  bytes = joined s.pages;
  owners = s.owners;
  processes =
      table.processes;
  threads = table.threads;
}

-- ---- looking up

-- the space of a live process
abbrev pub space_in : Tables → ℕ → List (ℕ × Entry)
space_in table p = elim (held_in table.processes p) [ None ↦ [] | Some h ↦ h.space ]

-- t's entry of the page that an address lies in
abbrev pub entry_in : Tables → ℕ → ℕ → Option Entry
entry_in table t address =
    elim (thread_in table.threads t) [
      | None ↦ None
      | Some thread ↦ look (space_in table thread.process) (address / 4096)
    ]

-- whether there is an entry, and it has the right that an access needs
abbrev pub is_allowed : Access → Option Entry → Bool
is_allowed access None = false
is_allowed access (Some e) = has_right access e

-- ---- changing

-- the frames with one granted to t, where it is foreign
abbrev pub with_open : Store → ℕ → ℕ → Access → Store
with_open s frame t access =
    if is_foreign t access (owner_at s frame) then with_grant s frame t access else s

-- ---- what calls rely on

-- the thread lives, and so does its process
pub record IsCaller (table : Tables) (t : ℕ) : Type 0 where
  pub thread : IsLiveThread table.threads t
  pub process : IfSome (thread_in table.threads t)
      (λ thread. IsProcess table.processes thread.process)

-- what t's entries name isn't Free
abbrev pub NamesUsedFrames : Tables → Store → ℕ → Type 0
NamesUsedFrames table s t = (address : ℕ) (e : Entry) → entry_in table t address ≡ Some e
    → is_free (slice_index_or s.owners e.frame Free) ≡ false

-- Where t's access of an address is allowed, the frame of its page is one of the frames, and isn't
-- Free.
pub record HasFrame (table : Tables) (s : Store) (t address : ℕ) (access : Access)
    (frame : ℕ) : Type 0 where
  pub entry : Entry
  pub found : entry_in table t address ≡ Some entry
  pub frame_is : entry.frame ≡ frame
  pub right : has_right access entry ≡ true
  pub owned : is_free (owner_at s frame) ≡ false
  pub within : frame < length s.owners

-- all pages are home, each with an owner
pub record HasAllHome (s : Store) : Type 0 where
  pub home : All IsSome s.pages
  pub owners : length s.owners ≡ length s.pages

-- Only owners changed: none came or went, and none became a thread's. Nothing was marked.
pub record KeepsUses (old new : Store) : Type 0 where
  pub pages : new.pages ≡ old.pages
  pub uses : new.uses ≡ old.uses
  pub frames : KeepsFrames old new
  pub used : (frame : ℕ) → is_free (slice_index_or new.owners frame Free)
      ≡ is_free (slice_index_or old.owners frame Free)
  pub owned : (frame t : ℕ) → slice_index_or new.owners frame Free ≡ Of t
      → slice_index_or old.owners frame Free ≡ Of t

-- What stays where t writes: all pages are home, no use came or went, and no frame became Free or
-- another thread's than t's.
pub record KeepsOthers (t : ℕ) (old new : Store) : Type 0 where
  pub home : HasAllHome new
  pub uses : new.uses ≡ old.uses
  pub frames : KeepsFrames old new
  pub used : (frame : ℕ) → is_free (slice_index_or new.owners frame Free)
      ≡ is_free (slice_index_or old.owners frame Free)
  pub owned : (frame other : ℕ) → slice_index_or new.owners frame Free ≡ Of other
      → (other ≡ t) ⊎ (slice_index_or old.owners frame Free ≡ Of other)
