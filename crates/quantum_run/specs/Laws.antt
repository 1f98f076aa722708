-- Laws of threads that run; the functions of the module laws promise them.
use Rattle.std.specs.Prelude.{ℕ, ◌≡◌, ◌+◌, ◌-◌, ◌<◌, ◌≤◌, Bool, List, length, Option, Some, Err}
use Rattle.std.specs.Prelude.{MatchOption, slice_get}
use Rattle.dos_world.specs.Lawful.{Lawful}
use Rattle.dos_world.specs.World.{World, Registers, ready_threads, released}
use Rattle.dos_world.specs.declared.Entry.{Entry}
use Rattle.dos_world.specs.declared.Reason.{Reason}
use Rattle.page_store.specs.Store.{Store, joined}
use Rattle.written_words.specs.declared.Written.{Written}
use Rattle.rv_exec.specs.Runs.{GoesTo}
use Rattle.flat_machine.specs.Buffered.{part, part_from}
use Rattle.flat_machine.specs.Over.{one_in}
use Rattle.flat_machine.specs.Step.{step}
use Rattle.flat_machine.specs.Alone.{emptied, alone}
use Rattle.flat_machine.specs.Mixed.{mixed}
use Rattle.flat_machine.specs.Laws.{after_steps}
use Rattle.quantum_run.specs.Answering.{run_answers}
use Rattle.quantum_run.specs.Buffering.{SeesFrames, buffer_places, still_for}
use Rattle.quantum_run.specs.Shows.{Pack, View, RanFor, RanOut, Shows, has_words}
use Rattle.quantum_run.specs.Mix.{turns_of, members, HaveBegun, RanAsNamed, PacksShow}
use Rattle.quantum_run.specs.ThreadRuns.{IsRunOf, run_to}

-- A thread without a reservation runs over the same frames and space.
abbrev pub RunsAreEmptied : Type 0
RunsAreEmptied = (w : World) (s : Store) (entries : List (ℕ × Entry)) (t : ℕ) (r : Registers)
    (budget : ℕ) → IsRunOf w s entries t r budget
    → IsRunOf (emptied w t) s entries t (released r) budget

-- What run_until_stop promises of t without a reservation is t's parallel part: each world that the
-- frames and the space are a run of becomes the one with the pages, registers and budget
-- afterwards.
abbrev pub RunsAreParts : Type 0
RunsAreParts = (w : World) (s : Store) (entries : List (ℕ × Entry)) (t : ℕ)
    (r begun after : Registers) (pages : List (Option (List ℕ))) (budget left : ℕ)
    (stop : Option Reason)
    → IsRunOf w s entries t r budget
    → begun ≡ released r
    → left ≤ budget
    → ((u : World) → IsRunOf u s entries t begun budget
    → after_steps (budget - left) u t ≡ Some (run_to u t pages after left))
    → MatchOption stop (left ≡ 0)
    (λ reason. (0 < left)
    × ((u : World) → IsRunOf u s entries t begun budget
    → step (run_to u t pages after left) t ≡ Err reason))
    → alone w t ≡ run_to w t pages after left

-- What is said of a run over these frames and places for words is said of the part of a thread in
-- the buffered scheme, in each world that has these frames and this space: from where it stands the
-- part ends where the run does.
abbrev pub BufferedRunsAreParts : Type 0
BufferedRunsAreParts = (s : Store) (entries : List (ℕ × Entry)) (t : ℕ) (r after : Registers)
    (words now : List Written) (budget left : ℕ) (stop : Option Reason)
    → left ≤ budget
    → GoesTo (run_answers (still_for t s.owners entries) (buffer_places (joined s.pages)))
    (budget - left) r words after now
    → MatchOption stop (left ≡ 0) (λ reason.
    one_in (run_answers (still_for t s.owners entries) (buffer_places (joined s.pages))) after now
    ≡ Err reason)
    → (w : World) → SeesFrames s entries t w
    → part_from w t budget r words ≡ part after left now

-- ---- packs

-- Where some of the packs are their threads' whole parts and the others unbegun, each shows the
-- world that the instructions of those parts lead to: the quantum of each of those threads, one
-- after another.
abbrev pub PartsAreAMix : Type 0
PartsAreAMix = (w : World) (f : ℕ → Bool) (v : View) (packs : List Pack)
    → Lawful w → HaveBegun w → length packs ≡ length (ready_threads w) → PacksShow w f v packs
    → (i t : ℕ) (p : Pack) → slice_get (ready_threads w) i ≡ Some t → slice_get packs i ≡ Some p
    → Shows p v (mixed w (turns_of w.quantum (members f 0 (ready_threads w))))

-- A pack under way shows the world that the instructions in this order lead to, whatever threads
-- the others are and in whatever order they come: so all packs that have run as often as one order
-- names their threads show one world.
abbrev pub PacksUnderWayAreAMix : Type 0
PacksUnderWayAreAMix = (w : World) (order : List ℕ) (v : View) (i t : ℕ) (opening pack : Pack)
    → slice_get (ready_threads w) i ≡ Some t → RanAsNamed w order v t opening pack
    → Shows pack v (mixed w order)

-- What a pack has run in slices adds up.
abbrev pub SlicesAddUp : Type 0
SlicesAddUp = (n m : ℕ) (p q r : Pack) (v : View) → q.thread ≡ p.thread
    → has_words q ≡ has_words p → RanFor n p v q → RanFor m q v r → RanFor (n + m) p v r

-- A pack that has run out has run for its whole budget, and one that has only begun for nothing.
pub record EndsAreUnderWay (p q : Pack) (v : View) : Type 0 where
  pub out : RanOut p v q → RanFor p.budget p v q
  pub begun : RanFor 0 p v p
