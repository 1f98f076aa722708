-- What a pack needs to run over a view, with nothing to choose: what a thread is told of a pack
-- that it is sent. This project's own rule.
use Rattle.std.specs.Prelude.{ℕ, ◌≡◌, ◌≢◌, ◌<◌, ◌||◌, ◌==◌, Bool, true, false, List, [], ◌∷◌}
use Rattle.std.specs.Prelude.{All, IsSome, length, Option, Some, None, slice_get, slice_index_or}
use Rattle.dos_world.specs.Numbered.{numbered}
use Rattle.dos_world.specs.World.{look}
use Rattle.dos_world.specs.declared.Entry.{Entry}
use Rattle.dos_world.specs.declared.Owner.TheVariants.{Free, Shared, Of}
use Rattle.quantum_run.specs.Shows.{Pack, View, frames_of, has_words}

-- whether the number stands in the list
abbrev pub stands_in : ℕ → List ℕ → Bool
stands_in n [] = false
stands_in n (m ∷ ms) = (m == n) || stands_in n ms

-- the entries of a process's space: none where it has ended
abbrev pub entries_of_process : Option (Option (List (ℕ × Entry))) → List (ℕ × Entry)
entries_of_process None = []
entries_of_process (Some None) = []
entries_of_process (Some (Some entries)) = entries

-- whether a page is home
abbrev pub is_home : Option (Option (List ℕ)) → Bool
is_home None = false
is_home (Some None) = false
is_home (Some (Some page)) = true

-- the space of the pack's process
abbrev pub space_under : View → Pack → List (ℕ × Entry)
space_under v p = entries_of_process (numbered v.spaces p.process)

-- As `CanRunOwning` of quantum_run says.
abbrev pub MayRunOwning : Pack → View → Type 0
MayRunOwning p v =
    (numbered v.spaces p.process ≡ Some (Some (space_under v p)))
    × ((page : ℕ) (e : Entry) → look (space_under v p) page ≡ Some e
    → (e.frame < length v.owners) × (slice_index_or v.owners e.frame Free ≢ Free))
    × ((frame : ℕ) → slice_index_or v.owners frame Free ≡ Of p.thread
    → stands_in frame (frames_of p.pages) ≡ true)
    × ((i frame : ℕ) → slice_get (frames_of p.pages) i ≡ Some frame
    → slice_index_or v.owners frame Free ≡ Of p.thread)
    × ((frame : ℕ) → slice_index_or v.owners frame Free ≡ Shared
    → is_home (slice_get v.pages frame) ≡ true)
    × (p.room ≡ length v.pages)

-- As `CanRunWriting` says.
abbrev pub MayRunWriting : Pack → View → Type 0
MayRunWriting p v =
    (numbered v.spaces p.process ≡ Some (Some (space_under v p)))
    × ((page : ℕ) (e : Entry) → look (space_under v p) page ≡ Some e
    → (e.frame < length v.owners) × (slice_index_or v.owners e.frame Free ≢ Free))
    × All IsSome v.pages

-- As `CanRun` says.
abbrev pub MayRun : Pack → View → Type 0
MayRun p v =
    (has_words p ≡ false → MayRunOwning p v) × (has_words p ≡ true → MayRunWriting p v)
