-- How many entries have each frame, counted entry by entry. This project's own rules.
use Rattle.std.specs.Prelude.{ℕ, ◌≡◌, ◌+◌, ◌-◌, ◌^◌, ◌<◌, min, List, [], ◌∷◌, All, None, Some}
use Rattle.std.specs.Prelude.{slice_index, slice_set}
use Rattle.dos_world.specs.declared.Entry.{Entry}
use Rattle.group_text.specs.declared.records.ProcessRecord.{ProcessRecord}

-- what a count stops at
abbrev pub most : ℕ
most = 2 ^ 32 - 1

-- an entry's frame is one of so many
abbrev pub HasFrameBelow : ℕ → ℕ × Entry → Type 0
HasFrameBelow frames e = e.1.frame < frames

-- and so each entry of a process that lives
abbrev pub HaveFrames : ℕ → ProcessRecord → Type 0
HaveFrames frames r = r.status ≡ None → All (HasFrameBelow frames) r.pages.items

-- one more for a frame
abbrev pub with_use : List ℕ → ℕ → List ℕ
with_use uses frame = slice_set uses frame (min (slice_index uses frame + 1) most)

-- one more for the frame of each entry
abbrev pub counted_space : List ℕ → List (ℕ × Entry) → List ℕ
counted_space uses [] = uses
counted_space uses (e ∷ space) = counted_space (with_use uses e.1.frame) space

-- the same for each process that lives
abbrev pub counted_all : List ℕ → List ProcessRecord → List ℕ
counted_all uses [] = uses
counted_all uses (r ∷ rs) =
    counted_all (elim r.status [ None ↦ counted_space uses r.pages.items | Some status ↦ uses ]) rs
