-- Pages that are away with packs, and how they come back. This project's own rules.
use Rattle.std.specs.Prelude.{ℕ, ◌≡◌, ◌≢◌, ◌⊎◌, ◌<◌, ◌≤◌, List, [], ◌∷◌, ◌++◌, length, Some, None}
use Rattle.std.specs.Prelude.{option_map, slice_get, slice_set}
use Rattle.dos_world.specs.declared.Config.{Config}
use Rattle.dos_world.specs.declared.Owner.TheVariants.{Of}
use Rattle.dos_world.specs.declared.Scheme.{Scheme}
use Rattle.dos_world.specs.declared.Scheme.TheVariants.{Buffered, Ownership}
use Rattle.dos_world.specs.Registers.{blank}
use Rattle.flat_machine.specs.Laws.{kept}
use Rattle.page_store.specs.Store.{Store, whole, owner_at, with_away}
use Rattle.flat_machine.specs.Laws.{without_progress}
use Rattle.quantum_run.specs.Packs.{bytes_of_frame, empty_pack, empty_writing, with_own_page}
use Rattle.quantum_run.specs.Packs.{with_thread_of}
pub use Rattle.quantum_run.specs.Packs.{view_of}
use Rattle.quantum_run.specs.Shows.{Pack}
use Rattle.proc_table.specs.Tables.{Tables, thread_in}

-- ---- lists

abbrev pub In : {A : Type 0} → List A → A → Type 0
In [] x = ⊥
In (y ∷ ys) x = (y ≡ x) ⊎ In ys x

-- the pages of all packs
abbrev pub all_pages : List Pack → List (ℕ × List ℕ)
all_pages [] = []
all_pages (p ∷ ps) = p.pages ++ all_pages ps

-- no thread stands twice among these
abbrev pub AreOnce : List ℕ → Type 0
AreOnce ts = (i j t : ℕ) → slice_get ts i ≡ Some t → slice_get ts j ≡ Some t → i ≡ j

-- no frame twice
abbrev pub HaveNoFrameTwice : List (ℕ × List ℕ) → Type 0
HaveNoFrameTwice [] = Unit {0}
HaveNoFrameTwice (x ∷ xs) = ((page : List ℕ) → In xs (x.0, page) → ⊥) × HaveNoFrameTwice xs

-- no thread twice
abbrev pub AreOthers : List Pack → Type 0
AreOthers [] = Unit {0}
AreOthers (p ∷ ps) = ((q : Pack) → In ps q → q.thread ≢ p.thread) × AreOthers ps

-- ---- coming back

-- These pages were away, and are home.
pub record PutBack (pages : List (ℕ × List ℕ)) (old new : Store) : Type 0 where
  pub owners : new.owners ≡ old.owners
  pub uses : new.uses ≡ old.uses
  pub marked : new.marked ≡ old.marked
  pub count : length new.pages ≡ length old.pages
  pub back : (frame : ℕ) (page : List ℕ) → In pages (frame, page)
      → (x : List ℕ) × (slice_get new.pages frame ≡ Some (Some x)) × (whole x ≡ page)
  pub rest : (frame : ℕ) → ((page : List ℕ) → In pages (frame, page) → ⊥)
      → slice_get new.pages frame ≡ slice_get old.pages frame

-- These threads have the packs' registers and budgets.
pub record AreSet (packs : List Pack) (old new : Tables) : Type 0 where
  pub processes : new.processes ≡ old.processes
  pub room : new.room ≡ old.room
  pub count : length new.threads ≡ length old.threads
  pub set : (p : Pack) → In packs p
      → option_map kept (thread_in new.threads p.thread) ≡ Some (p.registers, p.budget)
  pub others : (s : ℕ) → ((p : Pack) → In packs p → p.thread ≢ s)
      → thread_in new.threads s ≡ thread_in old.threads s
  pub same : (s : ℕ) → option_map without_progress (thread_in new.threads s)
      ≡ option_map without_progress (thread_in old.threads s)

-- ---- going out

-- the pack that is reserved for a scheme, where there are so many frames
abbrev pub blank_pack : Scheme → ℕ → Pack
blank_pack Ownership frames = empty_pack frames
blank_pack Buffered frames = empty_writing

-- a pack of no thread, which has written nothing
abbrev pub emptied_pack : Pack → Pack
emptied_pack p = with_thread_of p 0 0 (blank 0) 0

-- each of them, emptied, is this one
abbrev pub AreSpare : (first : Pack) → List Pack → Type 0
AreSpare first packs = (p : Pack) → In packs p → emptied_pack p ≡ first

-- the pack of a thread, before its pages come: this one, filled
abbrev pub pack_of : Tables → (first : Pack) → ℕ → Pack
pack_of table first t = elim (thread_in table.threads t) [
  | None ↦ first
  | Some x ↦ with_thread_of first t x.process x.registers x.budget
]

-- whose pack a frame's page goes into
abbrev pub IsFor : List ℕ → Store → ℕ → (place t : ℕ) → Type 0
IsFor ts s frame place t = (slice_get ts place ≡ Some t) × (owner_at s frame ≡ Of t)

-- one page goes out
pub record GoesOut (ts : List ℕ) (old : Store) (packs : List Pack) (frame : ℕ) (new : Store)
    (after : List Pack) : Type 0 where
  pub place : ℕ
  pub thread : ℕ
  pub for : IsFor ts old frame place thread
  pub page : List ℕ
  pub was : slice_get old.pages frame ≡ Some (Some page)
  pub pack : Pack
  pub found : slice_get packs place ≡ Some pack
  pub frames : new ≡ with_away old frame
  pub packs_are : after ≡ slice_set packs place (with_own_page pack frame page)

-- or it stays
pub record Stays (ts : List ℕ) (old : Store) (packs : List Pack) (frame : ℕ) (new : Store)
    (after : List Pack) : Type 0 where
  pub none : (place t : ℕ) → IsFor ts old frame place t → ⊥
  pub frames : new ≡ old
  pub packs_are : after ≡ packs

-- of the pages of the frames below this one, the pack has those of t's frames
pub record HasBelow (t : ℕ) (old : Store) (n : ℕ) (begun p : Pack) : Type 0 where
  pub is : p ≡ record begun { pages = p.pages }
  pub owner : (j frame : ℕ) (page : List ℕ) → slice_get p.pages j ≡ Some (frame, page)
      → (owner_at old frame ≡ Of t) × (frame < n) × (page ≡ bytes_of_frame old.pages frame)
  pub all : (frame : ℕ) → frame < n → owner_at old frame ≡ Of t
      → (j : ℕ) × (slice_get p.pages j ≡ Some (frame, bytes_of_frame old.pages frame))
  pub apart : (j k frame : ℕ) (a b : List ℕ) → slice_get p.pages j ≡ Some (frame, a)
      → slice_get p.pages k ≡ Some (frame, b) → j ≡ k

-- no pages yet, and room for all frames
abbrev pub AreBegun : Store → List Pack → Type 0
AreBegun s packs = (i : ℕ) (p : Pack) → slice_get packs i ≡ Some p
    → (p.pages ≡ []) × (p.room ≡ length s.pages)

-- The pages of the frames below this one are away where they are a starter's, each in its pack.
pub record Handing (ts : List ℕ) (begun : List Pack) (old new : Store) (packs : List Pack)
    (n : ℕ) : Type 0 where
  pub owners : new.owners ≡ old.owners
  pub uses : new.uses ≡ old.uses
  pub marked : new.marked ≡ old.marked
  pub count : length new.pages ≡ length old.pages
  pub level : length packs ≡ length ts
  pub away : (frame place t : ℕ) → frame < n → IsFor ts old frame place t
      → slice_get new.pages frame ≡ Some None
  pub home : (frame : ℕ) → (n ≤ frame) ⊎ ((place t : ℕ) → IsFor ts old frame place t → ⊥)
      → slice_get new.pages frame ≡ slice_get old.pages frame
  pub each : (i t : ℕ) (p : Pack) → slice_get ts i ≡ Some t → slice_get packs i ≡ Some p
      → (b : Pack) × (slice_get begun i ≡ Some b) × HasBelow t old n b p

-- ---- between two phases

-- what the packs of a kernel are for: so many frames, and phases of a scheme
pub record PacksFor : Type 0 where
  pub frames : ℕ
  pub scheme : Scheme

-- those of a kernel with this configuration
abbrev pub packs_for : Config → PacksFor
packs_for config = record { frames = config.frames; scheme = config.scheme }

-- At least 64 packs are spare, each of them this one when emptied, and none is out.
pub record ArePacks (first : Pack) (spare out : List Pack) (spare_room out_room : ℕ) : Type 0 where
  pub empty : AreSpare first spare
  pub many : 64 ≤ length spare
  pub fits : length spare ≤ spare_room
  pub none : out ≡ []
  pub room : 64 ≤ out_room
