-- The images of processes, as a session keeps them. This project's own rule.
use Rattle.std.specs.Prelude.{ℕ, List, [], Option, option_and_then, unwrap_or}
use Rattle.dos_world.specs.Numbered.{numbered}

-- The name of the image of a process: its number, from 1, is kept for each process in the order of
-- their numbers.
abbrev pub name_kept : (names : List (List ℕ)) → (images : List ℕ) → (p : ℕ) → Option (List ℕ)
name_kept names images p = option_and_then (λ image. numbered names image) (numbered images p)

-- the same, or nothing
abbrev pub name_by : (names : List (List ℕ)) → (images : List ℕ) → (p : ℕ) → List ℕ
name_by names images p = unwrap_or (name_kept names images p) []
