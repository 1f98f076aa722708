-- Four slots that are filled from a list keep it.
use Rattle.std.proofs.Common.{◌≡◌, ℕ, zero, suc, ◌≤◌, List, [], ◌∷◌, length, slice_get}
use Rattle.std.proofs.Common.{refl, ap, ◌∙◌, arith}
use Rattle.proc_table.specs.Saved.{kept_slots, slots_of}

four_slots : {A : Type 0} (xs : List A) → length xs ≤ 4
    → slice_get xs 0 ∷ slice_get xs 1 ∷ slice_get xs 2 ∷ slice_get xs 3 ∷ [] ≡ slots_of 4 xs
four_slots [] h = refl
four_slots (a ∷ []) h = refl
four_slots (a ∷ b ∷ []) h = refl
four_slots (a ∷ b ∷ c ∷ []) h = refl
four_slots (a ∷ b ∷ c ∷ d ∷ []) h = refl
four_slots (a ∷ b ∷ c ∷ d ∷ e ∷ xs) h = absurd (omega arith)

slots_kept : {A : Type 0} (n : ℕ) (xs : List A) → length xs ≤ n
    → kept_slots (slots_of n xs) ≡ xs
slots_kept zero [] h = refl
slots_kept zero (x ∷ xs) h = absurd (omega arith)
slots_kept (suc n) [] h = refl
slots_kept (suc n) (x ∷ xs) h = ap (λ ys. x ∷ ys) (slots_kept n xs (omega arith))

-- what the slots keep is what they were filled from
pub four_kept : {A : Type 0} (xs : List A) → length xs ≤ 4
    → kept_slots (slice_get xs 0 ∷ slice_get xs 1 ∷ slice_get xs 2 ∷ slice_get xs 3 ∷ []) ≡ xs
four_kept xs h = ap kept_slots (four_slots xs h) ∙ slots_kept 4 xs h
