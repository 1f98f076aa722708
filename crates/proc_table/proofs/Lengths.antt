-- Lengths: a change by number leaves that of a list.
use Rattle.std.proofs.Common.{◌≡◌, ◌<◌, ℕ, zero, suc, List, [], ◌∷◌, map, length, refl, ap}
use Rattle.std.proofs.Common.{Global, Vec, vec_len, rules, arith}
use Rattle.std.proofs.lemmas.List.{length-map}
use Rattle.dos_world.specs.Numbered.{changed, changed_at}

changed_at_length : {A : Type 0} (f : A → A) (xs : List A) (i : ℕ)
    → length (changed_at f xs i) ≡ length xs
changed_at_length f [] i = refl
changed_at_length f (x ∷ xs) zero = refl
changed_at_length f (x ∷ xs) (suc i) = ap (λ n. suc n) (changed_at_length f xs i)

pub changed_length : {A : Type 0} (f : A → A) (xs : List A) (t : ℕ)
    → length (changed f xs t) ≡ length xs
changed_length f xs zero = refl
changed_length f xs (suc i) = changed_at_length f xs i

pub mapped_length : {A : Type 0} (f : A → A) (xs : List A) → length (map f xs) ≡ length xs
mapped_length f xs = length-map xs f

pub ruleset lengths = (changed_length, mapped_length)

-- a place within a vector's list is an index of the vector
pub index_of : {A : Type 0} (v : Vec A Global) {place : ℕ} → place < length v.items
    → place < vec_len v
index_of v {place} h =
    let count : vec_len v ≡ length v.items = search rules in
    omega arith
