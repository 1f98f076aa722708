-- The memory of a thread in the buffered scheme: memory as the phase began, and words of its own.
-- This project's own rules.
use Rattle.std.specs.Prelude.{ℕ, ◌≡◌, ◌-◌, ◌/◌, ◌%◌, ◌<◌, ◌≤◌, Err, MatchOption}
use Rattle.std.specs.Prelude.{false, List, [], ◌∷◌, map, take, drop, Option, Some}
use Rattle.std.specs.Prelude.{if◌then◌else◌, option_map}
use Rattle.std.specs.Str.{bytes_eq}
use Rattle.dos_world.specs.World.{World, Registers, page_size}
use Rattle.dos_world.specs.Reach.{written}
use Rattle.dos_world.specs.declared.Reason.{Reason}
use Rattle.dos_world.specs.declared.Entry.{Entry}
use Rattle.dos_world.specs.declared.Owner.{Owner}
use Rattle.page_store.specs.Store.{Store, joined, shown}
use Rattle.flat_machine.specs.Buffered.{buffer_answers, owner_for}
use Rattle.flat_machine.specs.Over.{one_in}
use Rattle.rv_exec.specs.Runs.{GoesTo}
use Rattle.written_words.specs.declared.Written.{Written}
use Rattle.written_words.specs.Words.{words_put, with_stored}
use Rattle.quantum_run.specs.Answering.{Places, Still, still}
use Rattle.quantum_run.specs.Shows.{thread_space}

-- ---- what is answered

-- What is read and written at places, over the bytes that were there as the phase began. No word
-- can be claimed.
abbrev pub buffer_places : List ℕ → Places (List Written)
buffer_places bytes = record {
  bytes = λ words. words_put bytes words;
  write = λ words place new. with_stored words (place / page_size) (place % page_size) new;
  claims = false;
}

-- The same where each word is put in memory as it is written: the bytes, and the words that have
-- been put into them.
abbrev pub through_places : Places (List ℕ × List Written)
through_places = record {
  bytes = λ m. m.0;
  write = λ m place new. option_map (λ words. (written m.0 place new, words))
      (with_stored m.1 (place / page_size) (place % page_size) new);
  claims = false;
}

-- what stands still while t runs: each frame in use is its own
abbrev pub still_for : ℕ → List Owner → List (ℕ × Entry) → Still
still_for t owners entries = still t (map (owner_for t) owners) entries

-- These are the frames and t's space in w.
pub record SeesFrames (s : Store) (entries : List (ℕ × Entry)) (t : ℕ) (w : World) : Type 0 where
  pub bytes : w.bytes ≡ joined s.pages
  pub owners : w.owners ≡ s.owners
  pub space : thread_space w t ≡ entries

-- From these registers and words a thread went as far as its budget fell, to those, in each world
-- that is seen; and it stopped there for this reason, or its budget has come down to the floor.
pub record RanOver (s : Store) (entries : List (ℕ × Entry)) (t : ℕ) (r after : Registers)
    (words now : List Written) (budget left floor : ℕ) (stop : Option Reason) : Type 0 where
  pub within : left ≤ budget
  pub ran : (w : World) → SeesFrames s entries t w
      → GoesTo (buffer_answers w t) (budget - left) r words after now
  pub stops : MatchOption stop (left ≡ floor) (λ reason. (0 < left)
      × ((w : World) → SeesFrames s entries t w
      → one_in (buffer_answers w t) after now ≡ Err reason))

-- the same of words that there are
pub record HasWritten (s : Store) (entries : List (ℕ × Entry)) (t : ℕ) (r after : Registers)
    (words now : Option (List Written)) (budget left floor : ℕ) (stop : Option Reason) : Type 0
  where
    pub before : List Written
    pub later : List Written
    pub was : words ≡ Some before
    pub is : now ≡ Some later
    pub over : RanOver s entries t r after before later budget left floor stop

-- ---- pages

-- a page that shows these bytes: the old one where it shows them
abbrev pub page_with : Option (List ℕ) → List ℕ → Option (List ℕ)
page_with page bytes = if bytes_eq (shown page) bytes then page else Some bytes

-- as many pages that show these bytes, each the old one where it shows them
unfoldable pub pages_with : List (Option (List ℕ)) → List ℕ → List (Option (List ℕ))
pages_with [] bytes = []
pages_with (page ∷ pages) bytes =
    page_with page (take 4096 bytes) ∷ pages_with pages (drop 4096 bytes)

-- the pages as the thread reads them that has written these words
abbrev pub pages_read : List (Option (List ℕ)) → List Written → List (Option (List ℕ))
pages_read pages words = pages_with pages (words_put (joined pages) words)
