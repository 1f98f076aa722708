-- Whether no space has a frame twice, told by the last process that had each frame. This project's
-- own rules.
use Rattle.std.specs.Prelude.{ℕ, suc, Bool, true, not, ◌&&◌, List, [], ◌∷◌, None, Some}
use Rattle.std.specs.Prelude.{◌==◌, slice_index, slice_set}
use Rattle.dos_world.specs.declared.Entry.{Entry}
use Rattle.group_text.specs.declared.records.ProcessRecord.{ProcessRecord}

-- the process of this number has had the frame of each entry
abbrev pub marked_space : List ℕ → ℕ → List (ℕ × Entry) → List ℕ
marked_space last p [] = last
marked_space last p (e ∷ space) = marked_space (slice_set last e.1.frame p) p space

-- whether it had none of them before
abbrev pub are_apart : List ℕ → ℕ → List (ℕ × Entry) → Bool
are_apart last p [] = true
are_apart last p (e ∷ space) =
    not (slice_index last e.1.frame == p) && are_apart (slice_set last e.1.frame p) p space

-- whether that holds of each process that lives, the first of which has number p
abbrev pub are_all_apart : List ℕ → ℕ → List ProcessRecord → Bool
are_all_apart last p [] = true
are_all_apart last p (r ∷ rs) =
    elim r.status [
      | None ↦ are_apart last p r.pages.items
          && are_all_apart (marked_space last p r.pages.items) (suc p) rs
      | Some status ↦ are_all_apart last (suc p) rs
    ]
