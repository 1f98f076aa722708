-- The space of a thread.
use Rattle.std.proofs.Common.{ℕ, ◌/◌, ◌≡◌, refl, List, [], Option, Some, None}
use Rattle.dos_world.specs.World.{World, Thread, thread_at, entry_at, look, space_of}
use Rattle.dos_world.specs.declared.Entry.{Entry}
use Rattle.quantum_run.specs.Shows.{thread_space}

-- what maps an address of a thread is in the space of its process
pub entry-space : (w : World) (t address : ℕ)
    → entry_at w t address ≡ look (thread_space w t) (address / 4096)
entry-space w t address = by_thread (thread_at w t)
  where
    by_thread : (o : Option Thread)
        → (elim o as (λ _. Option Entry) [
          | None ↦ None
          | Some thread ↦ look (space_of w thread.process) (address / 4096)
        ])
        ≡ look (elim o as (λ _. List (ℕ × Entry)) [
          | None ↦ []
          | Some thread ↦ space_of w thread.process
        ]) (address / 4096)
    by_thread None = refl
    by_thread (Some thread) = refl
