-- Moves one after another that are instructions of one thread. This project's own words.
use Rattle.std.specs.Prelude.{ℕ, zero, suc, ◌≡◌, ◌/◌, List, map, Option, Some, All, length}
use Rattle.std.specs.Prelude.{option_map, slice_index, Ok}
use Rattle.dos_world.specs.World.{World, Thread, thread_at}
use Rattle.dos_world.specs.Play.{done}
use Rattle.flat_machine.specs.Step.{step}
pub use Rattle.quantum_run.specs.ThreadRuns.{IsElsewhere}
use Rattle.group_moves.specs.Moments.{Moment, kind_at, moment_behind, settled_scene}
use Rattle.group_moves.specs.Moves.{move_of, runs}
use Rattle.group_moves.specs.Places.{Scene}
use Rattle.group_walk.specs.Walks.{Walk, moment_in, world_there}

-- ---- what an instruction leaves

-- of each thread the process in which it lives
abbrev pub homes_in : World → List (Option ℕ)
homes_in w = map (λ thread. option_map (λ (known : Thread). known.process) thread) w.threads

-- The same processes and threads are there as before, and as many frames, and nothing more was
-- sent. Registers, budgets, bytes, owners and the number of rounds may be others.
pub record IsSameGroup (before behind : World) : Type 0 where
  pub processes : behind.processes ≡ before.processes
  pub homes : homes_in behind ≡ homes_in before
  pub count : length behind.bytes ≡ length before.bytes
  pub output : behind.output ≡ before.output
  pub error : behind.error ≡ before.error

-- ---- instructions

-- each byte of this frame is as it was
abbrev pub KeepsFrame : (before behind : World) → (frame : ℕ) → Type 0
KeepsFrame before behind frame =
    (i : ℕ) → i / 4096 ≡ frame → slice_index behind.bytes i ≡ slice_index before.bytes i

-- So many instructions of t, of which none stops, lead from one world to the other; before each t
-- is at none of these addresses, and none changes a byte of these frames.
abbrev pub StepsOn : (stops kept : List ℕ) → (count : ℕ) → (w : World) → (t : ℕ) → (last : World)
    → Type 0
StepsOn stops kept zero w t last = last ≡ w
StepsOn stops kept (suc count) w t last =
    IsElsewhere stops (thread_at w t)
    × ((next : World) × (step w t ≡ Ok next) × All (KeepsFrame w next) kept
    × StepsOn stops kept count next t last)

-- The next move is an instruction of t, which is at none of these addresses, and leads there; it
-- changes no byte of these frames.
pub record GoesOneOn (stops kept : List ℕ) (limit t : ℕ) (m next : Moment) : Type 0 where
  pub kind : kind_at limit m ≡ Some (runs t)
  pub elsewhere : IsElsewhere stops (thread_at m.world t)
  pub scene : Scene
  pub move : move_of m.world m.place ≡ done scene
  pub behind : next ≡ moment_behind (runs t) m (settled_scene scene)
  pub same : IsSameGroup m.world next.world
  pub keeps : All (KeepsFrame m.world next.world) kept

-- So many moves are such, one after another, and lead there.
abbrev pub GoesManyOn : (stops kept : List ℕ) → (count limit t : ℕ) → (m last : Moment) → Type 0
GoesManyOn stops kept zero limit t m last = last ≡ m
GoesManyOn stops kept (suc count) limit t m last =
    (next : Moment) × GoesOneOn stops kept limit t m next
    × GoesManyOn stops kept count limit t next last

-- From the old walk's moment so many instructions of one thread lead to the new one's, whatever was
-- sent before.
pub record HasGoneOn (stops kept : List ℕ) (count : ℕ) (old new : Walk) : Type 0 where
  pub thread : ℕ
  pub runs : (o e : List ℕ)
      → GoesManyOn stops kept count old.config.rounds thread (moment_in old (world_there old o e))
      (moment_in new (world_there new o e))
