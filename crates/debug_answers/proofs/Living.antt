-- The threads that live, as a table gives them and as they are told.
use Rattle.std.proofs.Common.{◌≡◌, ℕ, suc, List, [], ◌∷◌, length, map, flat_map, Option, Some}
use Rattle.std.proofs.Common.{None, refl, ap}
use Rattle.std.specs.Prelude.{is_some}
use Rattle.dos_world.specs.Numbered.{map_from, places_from}
use Rattle.dos_world.specs.World.{World, Thread}
use Rattle.proc_table.specs.Spread.{living_from}
use Rattle.debug_session.specs.Tables.{thread_line, living_row}

pub living_count : (n : ℕ) (threads : List (Option Thread))
    → length (living_from n threads) ≡ length (places_from n is_some threads)
living_count n [] = refl
living_count n (None ∷ threads) = living_count (suc n) threads
living_count n (Some thread ∷ threads) = ap suc (living_count (suc n) threads)

pub living_lines : (w : World) (n : ℕ) (threads : List (Option Thread))
    → map (λ e. thread_line w e.0 e.1) (living_from n threads)
    ≡ flat_map (λ x. x) (map_from n (living_row w) threads)
living_lines w n [] = refl
living_lines w n (None ∷ threads) = living_lines w (suc n) threads
living_lines w n (Some thread ∷ threads) =
    ap (λ (lines : List (List ℕ)). thread_line w n thread ∷ lines)
    (living_lines w (suc n) threads)
