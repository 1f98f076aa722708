-- Comparing digests one after the other, as a loop does.
use Rattle.std.proofs.Common.{◌≡◌, ℕ, zero, suc, Bool, true, false, not, List, [], ◌∷◌, drop}
use Rattle.std.proofs.Common.{Option, Some, refl, sym, subst}
use Rattle.std.specs.List.{slice_get}
use Rattle.std.specs.Str.{bytes_eq}
use Rattle.log_files.specs.declared.refusal.LogRefusal.TheVariants.{Digest}
use Rattle.log_files.specs.Judging.{first_other}

abbrev some_digest : List ℕ → Option (List ℕ)
some_digest d = Some d

digest_is : (d e : List ℕ) → some_digest d ≡ some_digest e → d ≡ e
digest_is d e is = cc

is_true : (b : Bool) → not b ≡ false → b ≡ true
is_true true is = refl
is_true false is = absurd cc

is_false : (b : Bool) → not b ≡ true → b ≡ false
is_false true is = absurd cc
is_false false is = refl

-- An equal pair is passed over.
pub goes_on : (n m i j : ℕ) (given logged : List (List ℕ)) (d e : List ℕ) → m ≡ suc n → j ≡ suc i
    → slice_get given i ≡ Some d → slice_get logged i ≡ Some e → not (bytes_eq d e) ≡ false
    → first_other n (drop i given) (drop i logged)
    ≡ first_other m (drop j given) (drop j logged)
goes_on n m i j [] logged d e more next g l same = absurd cc
goes_on n m i j (x ∷ given) [] d e more next g l same = absurd cc
goes_on n m zero j (x ∷ given) (y ∷ logged) d e more next g l same =
    let a : x ≡ d = digest_is x d g in
    let b : y ≡ e = digest_is y e l in
    rw (more, next, a, b, is_true (bytes_eq d e) same) refl
goes_on n m (suc i) j (x ∷ given) (y ∷ logged) d e more next g l same =
    subst (λ (k : ℕ). first_other n (drop i given) (drop i logged)
    ≡ first_other m (drop k (x ∷ given)) (drop k (y ∷ logged))) (sym next)
    (goes_on n m i (suc i) given logged d e more refl g l same)

-- The first pair that differs is the difference.
pub differs : (n i : ℕ) (given logged : List (List ℕ)) (d e : List ℕ)
    → slice_get given i ≡ Some d → slice_get logged i ≡ Some e → not (bytes_eq d e) ≡ true
    → first_other n (drop i given) (drop i logged) ≡ Some (Digest n d e)
differs n i [] logged d e g l other = absurd cc
differs n i (x ∷ given) [] d e g l other = absurd cc
differs n zero (x ∷ given) (y ∷ logged) d e g l other =
    let a : x ≡ d = digest_is x d g in
    let b : y ≡ e = digest_is y e l in
    rw (a, b, is_false (bytes_eq d e) other) refl
differs n (suc i) (x ∷ given) (y ∷ logged) d e g l other = differs n i given logged d e g l other
