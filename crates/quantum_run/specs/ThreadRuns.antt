-- A thread that runs in place, over the frames and its space. This project's own rules.
use Rattle.std.specs.Prelude.{ℕ, ◌≡◌, ◌==◌, ◌<◌, ⊤, Bool, false, List, [], Option, Some}
use Rattle.std.specs.Prelude.{None, Err, option_map, length}
use Rattle.std.specs.List.{list_any}
pub use Rattle.dos_world.specs.World.{ran}
use Rattle.dos_world.specs.World.{World, Thread, Registers, thread_at, with_thread, look}
use Rattle.dos_world.specs.declared.Entry.{Entry}
use Rattle.dos_world.specs.declared.Owner.{Owner}
use Rattle.dos_world.specs.declared.Reason.{Reason}
use Rattle.page_store.specs.Store.{Store, joined, IsOwned}
use Rattle.flat_machine.specs.Over.{MemoryAnswers, one_in}
use Rattle.rv_exec.specs.Runs.{GoesTo}
use Rattle.flat_machine.specs.Laws.{kept, after_steps}
use Rattle.quantum_run.specs.Finding.{page_start}
use Rattle.quantum_run.specs.Shows.{thread_space}

-- the world in which t has these registers and this budget, and the bytes are those of these pages
abbrev pub run_to : World → ℕ → List (Option (List ℕ)) → Registers → ℕ → World
run_to w t pages registers budget =
    record (with_thread w t (ran registers budget)) { bytes = joined pages }

-- frames with these owners and pages, whatever their uses and marks
abbrev pub store_of : List Owner → List (Option (List ℕ)) → Store
store_of owners pages = record { pages = pages; owners = owners; uses = []; marked = [] }

-- Each entry names a frame that there is, and that isn't Free.
abbrev pub AreMapped : Store → List (ℕ × Entry) → Type 0
AreMapped s entries = (page : ℕ) (e : Entry) → look entries page ≡ Some e
    → (e.frame < length s.pages) × IsOwned s e.frame

-- The frames hold w's bytes and owners, these entries are t's space in w, and t has these registers
-- and this budget.
pub record IsRunOf (w : World) (s : Store) (entries : List (ℕ × Entry)) (t : ℕ)
    (registers : Registers) (budget : ℕ) : Type 0 where
  pub bytes : w.bytes ≡ joined s.pages
  pub owners : w.owners ≡ s.owners
  pub space : thread_space w t ≡ entries
  pub thread : option_map kept (thread_at w t) ≡ Some (registers, budget)

-- ---- over any answers

-- Why the next instruction stops, where it does.
abbrev pub StopsFor : {M : Type 0} → MemoryAnswers M → Registers → M → Option Reason → Type 0
StopsFor answers r m None = ⊤
StopsFor answers r m (Some reason) = one_in answers r m ≡ Err reason

-- From these registers and this memory so many instructions led to those registers, and to a memory
-- that is shown.
pub record Reaches {M : Type 0} (answers : MemoryAnswers M) (shows : M → Type 0) (r : Registers)
    (m : M) (after : Registers) (made : ℕ) : Type 0 where
  pub now : M
  pub shown : shows now
  pub ran : GoesTo answers made r m after now

-- And the next one stops there for this reason, or for none.
pub record Goes {M : Type 0} (answers : MemoryAnswers M) (shows : M → Type 0) (r : Registers)
    (m : M) (after : Registers) (made : ℕ) (stop : Option Reason) : Type 0 where
  pub reaches : Reaches answers shows r m after made
  pub stops : StopsFor answers after reaches.now stop

-- ---- up to some addresses

-- it is one of these addresses
abbrev pub is_stop_at : (stops : List ℕ) → (pc : ℕ) → Bool
is_stop_at stops pc = list_any (λ (stop : ℕ). stop == pc) stops

-- Each of so many instructions, from these registers and this memory on, is at none of these
-- addresses.
abbrev pub AreElsewhere : {M : Type 0} → MemoryAnswers M → (stops : List ℕ) → (count : ℕ)
    → Registers → M → Type 0
AreElsewhere {M} answers stops count r m = (made : ℕ) (after : Registers) (u : M) → made < count
    → GoesTo answers made r m after u → is_stop_at stops after.pc ≡ false

-- A thread is at none of these addresses, where it lives.
abbrev pub IsElsewhere : (stops : List ℕ) → Option Thread → Type 0
IsElsewhere stops None = ⊤
IsElsewhere stops (Some thread) = is_stop_at stops thread.registers.pc ≡ false

-- From w on, t is at none of these addresses before each of so many instructions.
abbrev pub StartsElsewhere : (stops : List ℕ) → (count : ℕ) → World → ℕ → Type 0
StartsElsewhere stops count w t = (made : ℕ) (u : World) → made < count
    → after_steps made w t ≡ Some u → IsElsewhere stops (thread_at u t)

-- ---- in one page

-- None of these addresses is in the page that begins here.
abbrev pub AreOutside : (stops : List ℕ) → (base : ℕ) → Type 0
AreOutside stops base = (pc : ℕ) → page_start pc ≡ base → is_stop_at stops pc ≡ false

-- So many instructions led there, each of the page that begins at base.
pub record ReachesIn {M : Type 0} (base : ℕ) (answers : MemoryAnswers M) (shows : M → Type 0)
    (r : Registers) (m : M) (after : Registers) (made : ℕ) : Type 0 where
  pub reaches : Reaches answers shows r m after made
  pub outside : (stops : List ℕ) → AreOutside stops base → AreElsewhere answers stops made r m
