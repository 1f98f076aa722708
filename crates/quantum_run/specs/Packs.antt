-- What a pack keeps, and what a view is. This project's own rules.
use Rattle.std.specs.Prelude.{ℕ, ◌≡◌, ◌<◌, ◌≤◌, ◌^◌, ◌++◌, List, [], ◌∷◌, true, map, length, suc}
use Rattle.std.specs.Prelude.{Option, Some, None, option_map, slice_get}
use Rattle.dos_world.specs.World.{Process, Holdings, holdings_of}
use Rattle.dos_world.specs.declared.Entry.{Entry}
use Rattle.dos_world.specs.Registers.{Registers, blank}
use Rattle.page_store.specs.Store.{Store, whole, shown}
use Rattle.proc_table.specs.Tables.{Tables}
use Rattle.written_words.specs.declared.Written.{Written}
use Rattle.quantum_run.specs.Pages.{is_here}
use Rattle.quantum_run.specs.Shows.{Pack, View}
use Rattle.quantum_run.specs.declared.pack.Shared.{Shared as SharedOf}
use Rattle.quantum_run.specs.declared.pack.View.{View as ViewOf}

-- the bytes that a frame's page shows
abbrev pub bytes_of_frame : List (Option (List ℕ)) → ℕ → List ℕ
bytes_of_frame table frame =
    elim (slice_get table frame) [ None ↦ shown None | Some page ↦ shown page ]

-- these frames, each with its page
abbrev pub paired : List ℕ → List (Option (List ℕ)) → List (ℕ × List ℕ)
paired held table = map (λ frame. (frame, bytes_of_frame table frame)) held

-- how many pages are here
abbrev pub how_many : List (Option (List ℕ)) → ℕ
how_many [] = 0
how_many (None ∷ table) = how_many table
how_many (Some page ∷ table) = suc (how_many table)

-- The frames that are held are those whose page is here, each once, and there is room to hold them
-- all.
pub record IsPacked (held : List ℕ) (table : List (Option (List ℕ))) (capacity : ℕ) : Type 0 where
  pub here : (i frame : ℕ) → slice_get held i ≡ Some frame → is_here table frame ≡ true
  pub all : (frame : ℕ) → is_here table frame ≡ true → (i : ℕ) × (slice_get held i ≡ Some frame)
  pub apart : (i j frame : ℕ) → slice_get held i ≡ Some frame → slice_get held j ≡ Some frame
      → i ≡ j
  pub count : length held ≡ how_many table
  pub room_for : length table ≤ capacity
  pub few : length table < 2 ^ 32

-- no thread, and no pages
abbrev pub empty_pack : ℕ → Pack
empty_pack room = record {
  thread = 0;
  process = 0;
  registers = blank 0;
  budget = 0;
  pages = [];
  room = room;
  words = None;
}

-- no thread, no pages, and no words yet
abbrev pub empty_writing : Pack
empty_writing = record (empty_pack 0) { words = Some [] }

-- no words, where there were some
abbrev pub without_words : Option (List Written) → Option (List Written)
without_words words = option_map (λ _. []) words

-- the words that a pack has; none in the ownership scheme
abbrev pub words_held : Pack → List Written
words_held p = elim p.words [ None ↦ [] | Some words ↦ words ]

abbrev pub with_thread_of : Pack → (thread process : ℕ) → Registers → ℕ → Pack
with_thread_of p thread process registers budget = record p {
  thread = thread;
  process = process;
  registers = registers;
  budget = budget;
  words = without_words p.words;
}

-- one page more
abbrev pub with_own_page : Pack → ℕ → List ℕ → Pack
with_own_page p frame page = record p { pages = p.pages ++ (frame, whole page) ∷ [] }

abbrev pub HoldsNo : Pack → ℕ → Type 0
HoldsNo p frame = (i : ℕ) (page : List ℕ) → slice_get p.pages i ≡ Some (frame, page) → ⊥

-- the space of a process, where it lives
abbrev pub space_held : Process → Option (List (ℕ × Entry))
space_held process = option_map (λ (h : Holdings). h.space) (holdings_of process)

-- what packs see of these frames and this table
abbrev pub view_of : Store → Tables → View
view_of s table = record {
  owners = s.owners;
  pages = map (option_map whole) s.pages;
  spaces = map space_held table.processes;
}

-- what a view shows
abbrev pub seen_by_view : ViewOf → View
seen_by_view v = view_of v.frames.now v.table.now

-- what is shared shows
abbrev pub seen_in : SharedOf → View
seen_in s = view_of s.frames s.table
