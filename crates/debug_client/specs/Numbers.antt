-- Where a number stands in a rising list. This project's own rule.
use Rattle.std.specs.Prelude.{ℕ, zero, suc, List, [], ◌∷◌, nat_le, true, false}

-- the place of the first number that isn't below n
abbrev pub place_for : ℕ → List ℕ → ℕ
place_for n [] = zero
place_for n (x ∷ xs) = elim (nat_le n x) [ true ↦ zero | false ↦ suc (place_for n xs) ]
