-- What a list keeps of another, in its order, and what follows for it.
use Rattle.std.proofs.Common.{ℕ, ◌≤◌, ◌≡◌, ◌⊎◌, inl, inr, Bool, true, List, [], ◌∷◌, length, arith}
use Rattle.std.specs.Prelude.{All, sum_by}
use Rattle.std.specs.List.{list_any}
use Rattle.std.proofs.lemmas.Bool.{or_left, or_right, or_cases}
use Rattle.std.proofs.lemmas.List.Elements.{All-cons, All-head, All-tail}
use Rattle.std.proofs.lemmas.List.Sums.{sum_by-cons}

-- the first list is the second with some elements left out
pub data IsPart {A : Type 0} : List A → List A → Type 0 where
  nothing : IsPart [] []
  left_out : (x : A) (few many : List A) → IsPart few many → IsPart few (x ∷ many)
  kept : (x : A) (few many : List A) → IsPart few many → IsPart (x ∷ few) (x ∷ many)

pub whole_part : {A : Type 0} (xs : List A) → IsPart xs xs
whole_part [] = nothing
whole_part (x ∷ xs) = kept x xs xs (whole_part xs)

pub part_all : {A : Type 0} (P : A → Type 0) (few many : List A) → IsPart few many → All P many
    → All P few
part_all P few many nothing all = all
part_all P few many (left_out x f m part) all = part_all P f m part (All-tail P x m all)
part_all P few many (kept x f m part) all =
    All-cons P x f (All-head P x m all) (part_all P f m part (All-tail P x m all))

pub part_length : {A : Type 0} (few many : List A) → IsPart few many → length few ≤ length many
part_length few many nothing = omega arith
part_length few many (left_out x f m part) = omega (arith, part_length f m part)
part_length few many (kept x f m part) = omega (arith, part_length f m part)

pub part_any : {A : Type 0} (test : A → Bool) (few many : List A) → IsPart few many
    → list_any test few ≡ true → list_any test many ≡ true
part_any test few many nothing any = any
part_any test few many (left_out x f m part) any =
    or_right (test x) (list_any test m) (part_any test f m part any)
part_any test few many (kept x f m part) any =
    by_first (part_any test f m part) (or_cases (test x) (list_any test f) any)
  where
    by_first : (list_any test f ≡ true → list_any test m ≡ true)
        → (test x ≡ true) ⊎ (list_any test f ≡ true) → list_any test (x ∷ m) ≡ true
    by_first rest (inl here) = or_left (test x) (list_any test m) here
    by_first rest (inr there) = or_right (test x) (list_any test m) (rest there)

pub part_sum : {A : Type 0} (f : A → ℕ) (few many : List A) → IsPart few many
    → sum_by f few ≤ sum_by f many
part_sum f few many nothing = omega arith
part_sum f few many (left_out x fs ms part) =
    omega (arith, part_sum f fs ms part, sum_by-cons f x ms)
part_sum f few many (kept x fs ms part) =
    omega (arith, part_sum f fs ms part, sum_by-cons f x ms, sum_by-cons f x fs)
