-- Places that are all written.
use Rattle.std.proofs.Common.{ℕ, ◌≡◌, ◌≤◌, List, Option, length, map, is_some, arith}
use Rattle.std.proofs.lemmas.Grind.{common_steps}
use Rattle.quantum_run.specs.PagePlaces.{filled_up}
use Rattle.quantum_run.proofs.Packing.{same-length}

length-filled : (written : List (Option (List ℕ))) (count : ℕ) → length written ≤ count
    → length (filled_up written count) ≡ count
length-filled written count fits = grind (arith, common_steps)

-- as many stay written
pub length-kept : (before after : List (Option (List ℕ))) (count : ℕ) → length before ≤ count
    → map is_some after ≡ map is_some (filled_up before count) → length after ≡ count
length-kept before after count fits same =
    let e = length-filled before count fits in
    let s = same-length (filled_up before count) after same in
    omega (arith, e, s)

-- and no place is left to fill
pub filled-kept : (after : List (Option (List ℕ))) (count : ℕ) → length after ≡ count
    → filled_up after count ≡ after
filled-kept after count all = grind (arith, common_steps)
