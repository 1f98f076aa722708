-- Which frames are Free, and from which one on all are.
use Rattle.std.proofs.Common.{◌≡◌, ℕ, zero, suc, ◌+◌, ◌<◌, ◌≤◌, Bool, true, false, inl, inr}
use Rattle.std.proofs.Common.{List, [], ◌∷◌, length, get_or, set, map, replicate, refl, sym, ap}
use Rattle.std.proofs.Common.{◌∙◌, arith}
use Rattle.std.proofs.lemmas.List.{get_or_past}
use Rattle.std.proofs.lemmas.Bool.{cases_lt}
use Rattle.dos_world.specs.declared.Owner.{Owner}
use Rattle.dos_world.specs.declared.Owner.TheVariants.{Free}
use Rattle.dos_world.specs.World.{is_free}
use Rattle.page_store.specs.Store.{AreFreeFrom}

-- whether each of the first frames is Free, and nothing of the others
pub front_free : ℕ → List Owner → List Bool
front_free count [] = []
front_free zero (x ∷ xs) = false ∷ front_free zero xs
front_free (suc count) (x ∷ xs) = is_free x ∷ front_free count xs

pub front-none : (owners : List Owner) → front_free 0 owners ≡ replicate (length owners) false
unfolding front_free
front-none [] = refl
front-none (x ∷ xs) = ap (λ (bs : List Bool). false ∷ bs) (front-none xs)

pub front-length : (count : ℕ) (owners : List Owner)
    → length (front_free count owners) ≡ length owners
unfolding front_free
front-length count [] = refl
front-length zero (x ∷ xs) = ap suc (front-length zero xs)
front-length (suc count) (x ∷ xs) = ap suc (front-length count xs)

pub front-set : (count : ℕ) (owners : List Owner) → count < length owners
    → is_free (get_or owners count Free) ≡ true
    → set (front_free count owners) count true ≡ front_free (suc count) owners
unfolding front_free
front-set count [] h is = absurd (omega arith)
front-set zero (x ∷ xs) h is = ap (λ b. b ∷ front_free 0 xs) (sym is)
front-set (suc count) (x ∷ xs) h is =
    ap (λ (bs : List Bool). is_free x ∷ bs) (front-set count xs (omega arith) is)

pub front-same : (count : ℕ) (owners : List Owner) → count < length owners
    → is_free (get_or owners count Free) ≡ false
    → front_free count owners ≡ front_free (suc count) owners
unfolding front_free
front-same count [] h is = absurd (omega arith)
front-same zero (x ∷ xs) h is = ap (λ b. b ∷ front_free 0 xs) (sym is)
front-same (suc count) (x ∷ xs) h is =
    ap (λ (bs : List Bool). is_free x ∷ bs) (front-same count xs (omega arith) is)

pub front-all : (count : ℕ) (owners : List Owner) → length owners ≤ count
    → front_free count owners ≡ map is_free owners
unfolding front_free
front-all count [] h = refl
front-all zero (x ∷ xs) h = absurd (omega arith)
front-all (suc count) (x ∷ xs) h =
    ap (λ (bs : List Bool). is_free x ∷ bs) (front-all count xs (omega arith))

-- ---- from which one on all are Free

pub free-end : (owners : List Owner) (high : ℕ) → length owners ≤ high → AreFreeFrom owners high
free-end owners high h frame above =
    ap is_free (get_or_past owners frame Free (omega arith))

pub free-lower : (owners : List Owner) (high lower : ℕ) → high ≡ lower + 1
    → AreFreeFrom owners high → is_free (get_or owners lower Free) ≡ true
    → AreFreeFrom owners lower
free-lower owners high lower e all is frame above = elim (cases_lt lower frame) [
  | inl over ↦ all frame (omega arith)
  | inr at ↦ let here : lower ≡ frame = omega arith in
      ap (λ n. is_free (get_or owners n Free)) (sym here) ∙ is
]
