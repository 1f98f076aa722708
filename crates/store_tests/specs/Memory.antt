-- The pages of the process that copies are made of.
use Rattle.std.specs.Prelude.{◌≡◌, ℕ, List, [], ◌∷◌, true, false, IfSome}
use Rattle.dos_world.specs.declared.Entry.{Entry}
use Rattle.dos_world.specs.declared.Owner.{Owner}
use Rattle.dos_world.specs.declared.Owner.TheVariants.{Of, Free}
use Rattle.proc_table.specs.Tables.{Tables, thread_in}
use Rattle.kernel_mem.specs.MemoryWorld.{space_in}

-- page 0x10 in frame 0, and page 0x11, which is shared, in frame 1
abbrev pub two_entries : List (ℕ × Entry)
two_entries = (0x10, record { frame = 0; write = true; exec = false; shared = false })
    ∷ (0x11, record { frame = 1; write = true; exec = false; shared = true }) ∷ []

-- the owners of the frames: two of thread 1, and two that are Free
abbrev pub two_owners : List Owner
two_owners = Of 1 ∷ Of 1 ∷ Free ∷ Free ∷ []

-- Where thread 1 lives, its process has the two pages.
abbrev pub HasTwoPages : Tables → Type 0
HasTwoPages t = IfSome (thread_in t.threads 1) (λ thread.
    space_in t thread.process ≡ two_entries)
