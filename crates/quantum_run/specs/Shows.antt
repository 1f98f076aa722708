-- What a pack, which is a thread with the pages that are its own, and the view that is lent to it
-- show of a world. This project's own rule.
use Rattle.std.specs.Prelude.{ℕ, ◌≡◌, ◌≢◌, ◌*◌, ◌-◌, ◌<◌, List, [], map, length, Option, Some, None}
use Rattle.std.specs.Prelude.{All, Bool, IsSome, true, false, is_some, option_map, slice_get}
use Rattle.std.specs.Prelude.{slice_index_or}
use Rattle.flat_machine.specs.Buffered.{Part, part_from}
use Rattle.page_store.specs.Store.{joined}
use Rattle.written_words.specs.declared.Written.{Written}
use Rattle.dos_world.specs.Numbered.{numbered}
use Rattle.flat_machine.specs.Laws.{kept}
use Rattle.dos_world.specs.World.{World, Registers, thread_at, space_of, owner_of, look, page_of}
use Rattle.dos_world.specs.World.{released}
use Rattle.dos_world.specs.declared.Entry.{Entry}
use Rattle.dos_world.specs.declared.Owner.{Owner}
use Rattle.dos_world.specs.declared.Owner.TheVariants.{Free, Shared, Of}
use Rattle.flat_machine.specs.Alone.{budget_of, steps, alone}

-- the owners of the frames, the pages that are at home, and the spaces of the processes, numbered
-- from 1: None where one has ended
pub record View : Type 0 where
  pub owners : List Owner
  pub pages : List (Option (List ℕ))
  pub spaces : List (Option (List (ℕ × Entry)))

-- A thread's number and its process's, its registers and budget; its pages by frame, and the number
-- of frames that it has room for; and in the buffered scheme, in which it holds no pages, the words
-- that it has written.
pub record Pack : Type 0 where
  pub thread : ℕ
  pub process : ℕ
  pub registers : Registers
  pub budget : ℕ
  pub pages : List (ℕ × List ℕ)
  pub room : ℕ
  pub words : Option (List Written)

-- whether it is a pack of the buffered scheme
abbrev pub has_words : Pack → Bool
has_words p = is_some p.words

-- the space of t's process
abbrev pub thread_space : World → ℕ → List (ℕ × Entry)
thread_space w t = elim (thread_at w t) [ None ↦ [] | Some thread ↦ space_of w thread.process ]

-- These pages are just those of the frames that are t's, each once, with w's bytes.
pub record AreOwn (w : World) (t : ℕ) (pages : List (ℕ × List ℕ)) : Type 0 where
  pub owner : (i frame : ℕ) (page : List ℕ) → slice_get pages i ≡ Some (frame, page)
      → owner_of w frame ≡ Of t
  pub bytes : (i frame : ℕ) (page : List ℕ) → slice_get pages i ≡ Some (frame, page)
      → page ≡ page_of w.bytes frame
  pub all : (frame : ℕ) → owner_of w frame ≡ Of t
      → (i : ℕ) × (slice_get pages i ≡ Some (frame, page_of w.bytes frame))
  pub apart : (i j frame : ℕ) (page other : List ℕ) → slice_get pages i ≡ Some (frame, page)
      → slice_get pages j ≡ Some (frame, other) → i ≡ j

-- What p and v say of w. Of all other bytes of w they say nothing.
pub record Shows (p : Pack) (v : View) (w : World) : Type 0 where
  -- the owners of all frames
  pub owners : v.owners ≡ w.owners
  -- the thread's registers and budget
  pub thread : option_map kept (thread_at w p.thread) ≡ Some (p.registers, p.budget)
  -- its space
  pub space : numbered v.spaces p.process ≡ Some (Some (thread_space w p.thread))
  -- how many bytes there are
  pub count : length w.bytes ≡ 4096 * length w.owners
  -- no mapped frame is Free
  pub mapped : (page : ℕ) (e : Entry) → look (thread_space w p.thread) page ≡ Some e
      → owner_of w e.frame ≢ Free
  -- the bytes of each Shared frame
  pub shared : (frame : ℕ) → owner_of w frame ≡ Shared
      → slice_get v.pages frame ≡ Some (Some (page_of w.bytes frame))
  -- the frames that are the thread's
  pub own : AreOwn w p.thread p.pages

-- ---- a pack with pages of its own

-- The later pack is the thread's whole part, in each world that the pack and the view show.
abbrev pub FinishedOwning : Pack → View → Pack → Type 0
FinishedOwning p v after = (w : World) → Shows p v w → Shows after v (alone w p.thread)

-- The later pack is the thread run out from where the earlier one stands, until it stops or its
-- budget is 0, in each world that the earlier pack and the view show.
abbrev pub RanOutOwning : Pack → View → Pack → Type 0
RanOutOwning p v after =
    (w : World) → Shows p v w → Shows after v (steps (budget_of w p.thread) w p.thread)

-- The later pack is the thread after this many instructions from where the earlier one stands, or
-- fewer where it stops, in each world that the earlier pack and the view show.
abbrev pub RanForOwning : ℕ → Pack → View → Pack → Type 0
RanForOwning n p v after = (w : World) → Shows p v w → Shows after v (steps n w p.thread)

-- the frames of these pages
abbrev pub frames_of : List (ℕ × List ℕ) → List ℕ
frames_of pages = map (λ x. x.0) pages

-- What such a pack needs to run over a view.
pub record CanRunOwning (p : Pack) (v : View) : Type 0 where
  -- its process lives
  pub entries : List (ℕ × Entry)
  pub space : numbered v.spaces p.process ≡ Some (Some entries)
  -- each entry of its space names a frame that there is, and that isn't Free
  pub mapped : (page : ℕ) (e : Entry) → look entries page ≡ Some e
      → (e.frame < length v.owners) × (slice_index_or v.owners e.frame Free ≢ Free)
  -- it holds just the frames that are its thread's
  pub own : (frame : ℕ) → slice_index_or v.owners frame Free ≡ Of p.thread
      → (i : ℕ) × (slice_get (frames_of p.pages) i ≡ Some frame)
  pub owned : (i frame : ℕ) → slice_get (frames_of p.pages) i ≡ Some frame
      → slice_index_or v.owners frame Free ≡ Of p.thread
  -- the Shared frames are home
  pub shared : (frame : ℕ) → slice_index_or v.owners frame Free ≡ Shared
      → (page : List ℕ) × (slice_get v.pages frame ≡ Some (Some page))
  -- and it has room for just as many frames
  pub level : p.room ≡ length v.pages

-- ---- a pack with words

-- The view has w's owners and bytes, and the space of the pack's thread.
pub record Sees (p : Pack) (v : View) (w : World) : Type 0 where
  pub owners : v.owners ≡ w.owners
  pub bytes : w.bytes ≡ joined v.pages
  pub space : numbered v.spaces p.process ≡ Some (Some (thread_space w p.thread))

-- the pack after instructions that took so much of its budget, with the registers and words of a
-- part
abbrev pub with_part_of : Pack → (took : ℕ) → Part → Pack
with_part_of p took q = record p {
  registers = q.registers;
  budget = p.budget - took;
  words = Some q.words;
}

-- the pack as a part leaves it
abbrev pub pack_left : Pack → Part → Pack
pack_left p q = record p { registers = q.registers; budget = q.budget; words = Some q.words }

-- The later pack is the thread's whole part, begun with the pack's words, in each world that is
-- seen.
abbrev pub FinishedWriting : Pack → View → Pack → Type 0
FinishedWriting p v after = (words : List Written) → p.words ≡ Some words → (w : World)
    → Sees p v w
    → after ≡ pack_left p (part_from w p.thread p.budget (released p.registers) words)

-- The later pack is the thread run out from where the earlier one stands.
abbrev pub RanOutWriting : Pack → View → Pack → Type 0
RanOutWriting p v after = (words : List Written) → p.words ≡ Some words → (w : World)
    → Sees p v w → after ≡ pack_left p (part_from w p.thread p.budget p.registers words)

-- The later pack is the thread after this many instructions from where the earlier one stands, or
-- fewer where it stops.
abbrev pub RanForWriting : ℕ → Pack → View → Pack → Type 0
RanForWriting n p v after = (words : List Written) → p.words ≡ Some words → (w : World)
    → Sees p v w
    → let q = part_from w p.thread n p.registers words in after ≡ with_part_of p (n - q.budget) q

-- What such a pack needs to run over a view.
pub record CanRunWriting (p : Pack) (v : View) : Type 0 where
  -- its process lives
  pub entries : List (ℕ × Entry)
  pub space : numbered v.spaces p.process ≡ Some (Some entries)
  -- each entry of its space names a frame that there is, and that isn't Free
  pub mapped : (page : ℕ) (e : Entry) → look entries page ≡ Some e
      → (e.frame < length v.owners) × (slice_index_or v.owners e.frame Free ≢ Free)
  -- all frames are home
  pub home : All IsSome v.pages

-- ---- either

-- The later pack is the thread's whole part, of the same scheme.
pub record Finished (p : Pack) (v : View) (after : Pack) : Type 0 where
  pub scheme : has_words after ≡ has_words p
  pub owning : has_words p ≡ false → FinishedOwning p v after
  pub writing : FinishedWriting p v after

-- the pack as its thread's part begins: without a reservation
abbrev pub begun_pack : Pack → Pack
begun_pack p = record p { registers = released p.registers }

-- The later pack, of the same scheme, is the thread run out from where the earlier one stands,
-- until it stops or its budget is 0.
pub record RanOut (p : Pack) (v : View) (after : Pack) : Type 0 where
  pub scheme : has_words after ≡ has_words p
  pub owning : has_words p ≡ false → RanOutOwning p v after
  pub writing : RanOutWriting p v after

-- The later pack is the thread after this many instructions from where the earlier one stands, or
-- fewer where it stops.
pub record RanFor (n : ℕ) (p : Pack) (v : View) (after : Pack) : Type 0 where
  pub owning : has_words p ≡ false → RanForOwning n p v after
  pub writing : RanForWriting n p v after

-- The later pack is of the same scheme; and where the thread runs out from it, it runs out from the
-- earlier one.
pub record LeadsTo (p : Pack) (v : View) (later : Pack) : Type 0 where
  pub scheme : has_words later ≡ has_words p
  pub leads : (after : Pack) → RanOut later v after → RanOut p v after

-- What a pack needs to run over a view.
pub record CanRun (p : Pack) (v : View) : Type 0 where
  pub owning : has_words p ≡ false → CanRunOwning p v
  pub writing : has_words p ≡ true → CanRunWriting p v
