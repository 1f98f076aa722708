-- Pieces of input stay filled, and an empty answer is the end.
use Rattle.std.proofs.Common.{◌≡◌, ◌<◌, ℕ, zero, suc, Bool, true, false, cond, leb, List, [], ◌∷◌}
use Rattle.std.proofs.Common.{length, take, drop, refl, arith}
use Rattle.std.proofs.lemmas.Bool.{leb-false}
use Rattle.std.proofs.lemmas.List.{length-drop}
use Rattle.dos_io.specs.Hosts.{AreFilled, taken}

one_more : (piece : List ℕ) (pieces : List (List ℕ)) → 0 < length piece → AreFilled pieces
    → AreFilled (piece ∷ pieces)
one_more [] pieces some filled = absurd (omega arith)
one_more (b ∷ bytes) pieces some filled = filled

pub taken_filled : (max : ℕ) (pieces : List (List ℕ)) → AreFilled pieces
    → AreFilled (taken max pieces).1
taken_filled max [] filled = tt
taken_filled max ([] ∷ pieces) filled = absurd filled
taken_filled max ((b ∷ bytes) ∷ pieces) filled = go (leb (length (b ∷ bytes)) max) refl
  where
    go : (t : Bool) → leb (length (b ∷ bytes)) max ≡ t
        → AreFilled (cond {A = List ℕ × List (List ℕ)} t (b ∷ bytes, pieces)
        (take max (b ∷ bytes), drop max (b ∷ bytes) ∷ pieces)).1
    go true is = filled
    go false is = one_more (drop max (b ∷ bytes)) pieces
        (omega (arith, length-drop max (b ∷ bytes), leb-false _ _ is)) filled

pub taken_end : (max : ℕ) (pieces : List (List ℕ)) → 0 < max → AreFilled pieces
    → (taken max pieces).0 ≡ [] → pieces ≡ []
taken_end max [] some filled none = refl
taken_end max ([] ∷ pieces) some filled none = absurd filled
taken_end zero ((b ∷ bytes) ∷ pieces) some filled none = absurd (omega arith)
taken_end (suc max) ((b ∷ bytes) ∷ pieces) some filled none =
    go (leb (length (b ∷ bytes)) (suc max)) none
  where
    go : (t : Bool)
        → (cond {A = List ℕ × List (List ℕ)} t (b ∷ bytes, pieces)
        (take (suc max) (b ∷ bytes), drop (suc max) (b ∷ bytes) ∷ pieces)).0 ≡ []
        → (b ∷ bytes) ∷ pieces ≡ []
    go true none = absurd cc
    go false none = absurd cc
