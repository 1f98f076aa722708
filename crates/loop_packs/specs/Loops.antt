-- Packs that jump on the spot, and what they are lent.
use Rattle.std.specs.Prelude.{ℕ, ◌≡◌, List, [], ◌∷◌, true, false, length}
use Rattle.dos_world.specs.declared.Entry.{Entry}
use Rattle.dos_world.specs.declared.Owner.TheVariants.{Shared}
use Rattle.page_store.specs.Store.{Store, AreHome}
use Rattle.quantum_run.specs.Shows.{Pack}

-- one frame, which is Shared and home
abbrev pub HasOneShared : Store → Type 0
HasOneShared f = (f.owners ≡ Shared ∷ []) × AreHome f × (length f.pages ≡ 1)

-- page 0x10 shows frame 0, and can be executed
abbrev pub page_of_code : List (ℕ × Entry)
page_of_code = (0x10, record { frame = 0; write = false; exec = true; shared = false }) ∷ []

-- a thread of the first process, with no pages of its own
abbrev pub IsLoop : Pack → Type 0
IsLoop p = (p.process ≡ 1) × (p.pages ≡ []) × (p.room ≡ 1)
