-- A loop that maps a list in its place.
use Rattle.std.proofs.Common.{◌≡◌, ℕ, zero, suc, ◌+◌, ◌<◌, List, [], ◌∷◌, ◌++◌, map, length, get_or}
use Rattle.std.proofs.Common.{set, take, drop, refl, ap, ◌∙◌, arith}

map_step : {A : Type 0} (f : A → A) (xs : List A) (i : ℕ) (x : A) → i < length xs
    → x ≡ get_or (map f (take i xs) ++ drop i xs) i x
    → set (map f (take i xs) ++ drop i xs) i (f x) ≡ map f (take (suc i) xs) ++ drop (suc i) xs
map_step f [] i x h e = absurd (omega arith)
map_step f (z ∷ xs) zero x h e = ap (λ v. f v ∷ xs) e
map_step f (z ∷ xs) (suc i) x h e = ap (λ v. f z ∷ v) (map_step f xs i x (omega arith) e)

pub get_or_any : {A : Type 0} (xs : List A) (i : ℕ) (a b : A) → i < length xs
    → get_or xs i a ≡ get_or xs i b
get_or_any [] i a b h = absurd (omega arith)
get_or_any (x ∷ xs) zero a b h = refl
get_or_any (x ∷ xs) (suc i) a b h = get_or_any xs i a b (omega arith)

-- one step: the element at i is replaced by what f makes of it
pub map_loop : {A : Type 0} (f : A → A) (xs ys : List A) (i : ℕ) (d y : A)
    → ys ≡ map f (take i xs) ++ drop i xs → i < length xs → length ys ≡ length xs
    → y ≡ f (get_or ys i d) → set ys i y ≡ map f (take (i + 1) xs) ++ drop (i + 1) xs
map_loop f xs ys i d y e h l q =
    let one : suc i ≡ i + 1 = omega arith in
    ap (λ v. set ys i v) q ∙ ap (λ zs. set zs i (f (get_or ys i d))) e
    ∙ map_step f xs i (get_or ys i d) h
    (get_or_any ys i d (get_or ys i d) (omega arith) ∙ ap (λ zs. get_or zs i (get_or ys i d)) e)
    ∙ ap (λ n. map f (take n xs) ++ drop n xs) one
