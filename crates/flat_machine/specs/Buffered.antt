-- The parallel phase in the buffered scheme: each thread works on memory as the phase began, and on
-- words of its own. This project's own profile.
use Rattle.std.specs.Prelude.{ℕ, zero, suc, ◌/◌, ◌%◌, List, [], ◌∷◌, map, Option, Some, None}
use Rattle.std.specs.Prelude.{Result, Ok, Err, if◌then◌else◌}
use Rattle.dos_world.specs.World.{World, Thread, Registers, page_size, thread_at, with_thread, ran}
use Rattle.dos_world.specs.World.{blank, released, is_free, ready_threads}
use Rattle.dos_world.specs.Bytes.{bytes_of}
use Rattle.dos_world.specs.Reach.{width}
use Rattle.dos_world.specs.declared.Access.TheVariants.{Store, Claim}
use Rattle.dos_world.specs.declared.Owner.{Owner}
use Rattle.dos_world.specs.declared.Owner.TheVariants.{Free, Of}
use Rattle.dos_world.specs.declared.Reason.{Reason}
use Rattle.dos_world.specs.declared.Reason.TheVariants.{Page}
use Rattle.dos_world.specs.declared.Size.TheVariants.{Word}
use Rattle.written_words.specs.declared.Written.{Written}
use Rattle.written_words.specs.Words.{words_put, with_stored}
use Rattle.flat_machine.specs.Step.{◌>>=◌, reached, half_at, load_at}
use Rattle.flat_machine.specs.Over.{MemoryAnswers, one_in}

-- ---- what a thread sees

-- The owner of a frame as t sees it: each that isn't Free is t's.
abbrev pub owner_for : ℕ → Owner → Owner
owner_for t owner = if is_free owner then Free else Of t

-- The world as t sees it: its words are put in memory, and each frame in use is its own, so that no
-- page is foreign.
abbrev pub as_seen_by : World → ℕ → List Written → World
as_seen_by w t words =
    record w { bytes = words_put w.bytes words; owners = map (owner_for t) w.owners }

-- the words after a store, or a stop as at a page where there would be one too many
abbrev pub words_or_page : ℕ → Option (List Written) → Result (List Written) Reason
words_or_page address None = Err (Page address Store)
words_or_page address (Some words) = Ok words

-- What t's memory answers: a fetch and a load are those of the world that t sees; a store goes to
-- t's words; and a claim that would be done stops as at a page.
abbrev pub buffer_answers : World → ℕ → MemoryAnswers (List Written)
buffer_answers w t = record {
  fetch = λ words address. half_at (as_seen_by w t words) t address;
  load = λ words address size. load_at (as_seen_by w t words) t address size;
  store = λ words address size value.
      reached (as_seen_by w t words) t address size Store
      >>= λ place. words_or_page address
      (with_stored words (place / page_size) (place % page_size) (bytes_of (width size) value));
  claim = λ words address.
      reached (as_seen_by w t words) t address Word Claim >>= λ place. Err (Page address Claim);
}

-- ---- the part of one thread

-- what a part leaves: the registers, what is left of the budget, and the words that were written
pub record Part : Type 0 where
  pub registers : Registers
  pub budget : ℕ
  pub words : List Written

abbrev pub part : Registers → ℕ → List Written → Part
part registers budget words = record { registers = registers; budget = budget; words = words }

-- instructions of t, each for one of the budget, until one stops or the budget is 0
abbrev pub part_from : World → ℕ → (budget : ℕ) → Registers → List Written → Part
part_from w t zero r words = part r zero words
part_from w t (suc n) r words =
    elim (one_in (buffer_answers w t) r words) [
      | Ok next ↦ part_from w t n next.0 next.1
      | Err reason ↦ part r (suc n) words
    ]

-- A part begins with no reservation, and nothing written.
abbrev pub part_of_thread : World → ℕ → Option Thread → Part
part_of_thread w t None = part (blank 0) 0 []
part_of_thread w t (Some thread) = part_from w t thread.budget (released thread.registers) []

-- the part of the thread of this number
abbrev pub part_b : World → ℕ → Part
part_b w t = part_of_thread w t (thread_at w t)

-- ---- the phase

-- the world with a part of t's: its registers and budget, and its words put in memory
abbrev pub with_part : World → ℕ → Part → World
with_part w t p =
    record (with_thread w t (ran p.registers p.budget)) { bytes = words_put w.bytes p.words }

-- the parts of these threads, each taken of the world as the phase began, put in one after another
abbrev pub all_put : (began w : World) → List ℕ → World
all_put began w [] = w
all_put began w (t ∷ ts) = all_put began (with_part w t (part_b began t)) ts

-- The parts of the ready threads, put in in rising number.
abbrev pub buffered : World → World
buffered w = all_put w w (ready_threads w)
