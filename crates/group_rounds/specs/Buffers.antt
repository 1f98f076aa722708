-- What packs with words have left, and how it is put in. This project's own rules.
use Rattle.std.specs.Prelude.{ℕ, ◌≡◌, List, [], ◌∷◌, Some, slice_get}
use Rattle.dos_world.specs.World.{World}
use Rattle.dos_laws.specs.Taken.{IsPartIn}
use Rattle.flat_machine.specs.Buffered.{Part, part, with_part}
use Rattle.proc_table.specs.Tables.{IsLiveThread}
use Rattle.quantum_run.specs.Packs.{words_held}
use Rattle.quantum_run.specs.Shows.{Pack}
use Rattle.kernel_calls.specs.declared.state.State.{State}

-- the part that a pack's thread has left
abbrev pub part_in : Pack → Part
part_in p = part p.registers p.budget (words_held p)

-- these parts put in, one after another
abbrev pub parts_put : World → List Pack → World
parts_put w [] = w
parts_put w (p ∷ ps) = parts_put (with_part w p.thread (part_in p)) ps

-- The pack's thread lives in the state, and its part is in range there.
pub record CanBePut (s : State) (p : Pack) : Type 0 where
  pub live : IsLiveThread s.table.threads p.thread
  pub part_is : IsPartIn s.frames.owners (part_in p)

-- The packs have words, and none is written yet.
abbrev pub HaveNoWords : List Pack → Type 0
HaveNoWords packs = (i : ℕ) (p : Pack) → slice_get packs i ≡ Some p → p.words ≡ Some []
