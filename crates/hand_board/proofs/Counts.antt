-- Numbers in lists, and totals over all views.
use Rattle.std.proofs.Common.{◌≡◌, ◌≢◌, ℕ, zero, suc, ◌+◌, ◌<◌, ◌≤◌, List, [], ◌∷◌, ◌++◌, length}
use Rattle.std.proofs.Common.{set, refl, sym, ap, ◌∙◌, arith, eq-eqb, ne_eqb}
use mathlib.Core.Logic.{dite}
use mathlib.Core.Option.{some, some-injective, some-ne-none}
use native.Mathlib.Decide.{ℕ_discrete}
use lib.ListN.{get_elem?}
use Rattle.std.specs.Prelude.{None}
use Rattle.hand_board.specs.Placed.{count_where, times, without, total, once, blanks}
use Rattle.hand_board.proofs.Front.{Apart, Distinct, Within}

pub within : {A : Type 0} → (l : List A) (i : ℕ) (x : A) → get_elem? l i ≡ some x → i < length l
within [] i x e = absurd (some-ne-none x (sym e))
within (y ∷ ys) zero x e = omega arith
within (y ∷ ys) (suc i) x e = let r = within ys i x e in omega arith

pub there : {A : Type 0} → (l : List A) (i : ℕ) → i < length l → (a : A) × (get_elem? l i ≡ some a)
there [] i h = absurd (omega arith)
there (x ∷ xs) zero h = (x, refl)
there (x ∷ xs) (suc i) h = there xs i (omega arith)

pub times_here : (x : ℕ) (l : List ℕ) → times x (x ∷ l) ≡ suc (times x l)
times_here x l = rw (eq-eqb x x refl) (omega arith)

pub times_else : (x y : ℕ) (l : List ℕ) → y ≢ x → times x (y ∷ l) ≡ times x l
times_else x y l n = rw (ne_eqb y x n) (omega arith)

pub times_append : (x : ℕ) (l m : List ℕ) → times x (l ++ m) ≡ times x l + times x m
times_append x [] m = omega arith
times_append x (y ∷ ys) m = omega (arith, times_append x ys m)

pub once_one : (w : ℕ) → once w ≢ 0 → w ≡ 1
once_one w n = dite (ℕ_discrete w 1) (λ e. e) (λ ne. absurd (n (ap count_where (ne_eqb w 1 ne))))

pub once_none : (w : ℕ) → w ≢ 1 → once w ≡ 0
once_none w n = ap count_where (ne_eqb w 1 n)

without_here : (x y : ℕ) (l : List ℕ) → y ≡ x → without x (y ∷ l) ≡ l
without_here x y l e = rw (eq-eqb y x e) refl

without_else : (x y : ℕ) (l : List ℕ) → y ≢ x → without x (y ∷ l) ≡ y ∷ without x l
without_else x y l n = rw (ne_eqb y x n) refl

-- where a list has x, it is what stands before, x, and what stands behind
pub split_at : (x : ℕ) (l : List ℕ) → 0 < times x l → (pre : List ℕ) × (post : List ℕ)
    × (l ≡ pre ++ x ∷ post) × (without x l ≡ pre ++ post) × (times x pre ≡ 0)
split_at x [] h = absurd (omega arith)
split_at x (y ∷ ys) h = dite (ℕ_discrete y x)
    (λ e. ([], ys, ap (λ z. z ∷ ys) e, without_here x y ys e, refl))
    (λ n. let less : 0 < times x ys = omega (arith, times_else x y ys n) in
    let r = split_at x ys less in (
      y ∷ r.0,
      r.1,
      ap (λ z. y ∷ z) r.2,
      without_else x y ys n
          ∙ ap (λ z. y ∷ z) r.3,
      times_else x y r.0 n ∙ r.4,
    ))

pub apart_of : (T : Type 0) → (x : ℕ) (l : List ℕ) → times x l ≡ 0 → Apart x (blanks {T = T} l)
apart_of T x [] e = tt
apart_of T x (y ∷ ys) e = dite (ℕ_discrete y x)
    (λ s. absurd (omega (arith, ap (λ z. times z (y ∷ ys)) s, times_here y ys, e)))
    (λ n. ((λ q. n (sym q)), apart_of T x ys (sym (times_else x y ys n) ∙ e)))

pub distinct_of : (T : Type 0) → (l : List ℕ) → ((x : ℕ) → times x l ≤ 1)
    → Distinct (blanks {T = T} l)
distinct_of T [] h = tt
distinct_of T (y ∷ ys) h = (
  apart_of T y ys (let p = times_here y ys in
      let q = h y in
      omega arith),
  distinct_of T ys (λ x. omega (arith, h x)),
)

pub within_of : (T : Type 0) → (n : ℕ) (l : List ℕ) → ((x : ℕ) → 0 < times x l → x < n)
    → Within n (blanks {T = T} l)
within_of T n [] h = tt
within_of T n (y ∷ ys) h =
    (h y (omega (arith, times_here y ys)), within_of T n ys (λ x p. h x (omega arith)))

pub blanks_append : {T : Type 0} → (l m : List ℕ) → blanks {T = T} (l ++ m) ≡ blanks l ++ blanks m
blanks_append [] m = refl
blanks_append {T} (x ∷ xs) m = ap (λ z. (x, None) ∷ z) (blanks_append {T = T} xs m)

module _ {V : Type 0} where
  pub total_set : (f : V → ℕ) (vs : List V) (id : ℕ) (v w : V) → get_elem? vs id ≡ some v
      → total f (set vs id w) + f v ≡ total f vs + f w
  total_set f [] id v w e = absurd (some-ne-none v (sym e))
  total_set f (x ∷ xs) zero v w e = let p : f x ≡ f v = ap f (some-injective x v e) in omega arith
  total_set f (x ∷ xs) (suc id) v w e = let p = total_set f xs id v w e in omega arith

  pub total_snoc : (f : V → ℕ) (vs : List V) (w : V) → total f (vs ++ w ∷ []) ≡ total f vs + f w
  total_snoc f [] w = omega arith
  total_snoc f (x ∷ xs) w = let p = total_snoc f xs w in omega arith

  pub total_part : (f : V → ℕ) (vs : List V) (id : ℕ) (v : V) → get_elem? vs id ≡ some v
      → f v ≤ total f vs
  total_part f [] id v e = absurd (some-ne-none v (sym e))
  total_part f (x ∷ xs) zero v e = let p : f x ≡ f v = ap f (some-injective x v e) in omega arith
  total_part f (x ∷ xs) (suc id) v e = let p = total_part f xs id v e in omega arith

  pub total_none : (f g : V → ℕ) (vs : List V) → total g vs ≡ 0
      → ((j : ℕ) (u : V) → get_elem? vs j ≡ some u → g u ≡ 0 → f u ≡ 0) → total f vs ≡ 0
  total_none f g [] z h = refl
  total_none f g (x ∷ xs) z h =
      let a : f x ≡ 0 = h 0 x refl (omega arith) in
      let b : total f xs ≡ 0 = total_none f g xs (omega arith) (λ j u e. h (suc j) u e) in
      omega arith

  -- where one has all of g, and f is 0 where g is, it has all of f
  pub total_alone : (f g : V → ℕ) (vs : List V) (id : ℕ) (v : V) → get_elem? vs id ≡ some v
      → total g vs ≡ g v → ((j : ℕ) (u : V) → get_elem? vs j ≡ some u → g u ≡ 0 → f u ≡ 0)
      → total f vs ≡ f v
  total_alone f g [] id v e z h = absurd (some-ne-none v (sym e))
  total_alone f g (x ∷ xs) zero v e z h =
      let p : f x ≡ f v = ap f (some-injective x v e) in
      let q : g x ≡ g v = ap g (some-injective x v e) in
      let b : total f xs ≡ 0 = total_none f g xs (omega arith) (λ j u e. h (suc j) u e) in
      omega arith
  total_alone f g (x ∷ xs) (suc id) v e z h =
      let m : g v ≤ total g xs = total_part g xs id v e in
      let a : f x ≡ 0 = h 0 x refl (omega arith) in
      let b : total f xs ≡ f v = total_alone f g xs id v e (omega arith) (λ j u e. h (suc j) u e) in
      omega arith

pub times_bring : (i j : ℕ) (l : List ℕ) → 0 < times i l → times j (i ∷ without i l) ≡ times j l
times_bring i j l h = let r = split_at i l h in
    let a : times j l ≡ times j (r.0 ++ i ∷ r.1) = ap (times j) r.2 in
    let b : times j (without i l) ≡ times j (r.0 ++ r.1) = ap (times j) r.3 in
    let c = times_append j r.0 (i ∷ r.1) in let d = times_append j r.0 r.1 in omega arith

pub once_most : (w : ℕ) → once w ≤ 1
once_most w = dite (ℕ_discrete w 1) (λ e. let a : once w ≡ 1 = ap count_where (eq-eqb w 1 e) in
    omega arith)
    (λ n. let a = once_none w n in
    omega arith)

pub times_without : (i j : ℕ) (l : List ℕ) → times j (without i l) ≤ times j l
times_without i j [] = omega arith
times_without i j (y ∷ ys) = dite (ℕ_discrete y i)
    (λ e. let a : times j (without i (y ∷ ys)) ≡ times j ys =
    ap (times j) (without_here i y ys e) in
    omega arith)
    (λ n. let a : times j (without i (y ∷ ys)) ≡ times j (y ∷ without i ys) =
    ap (times j) (without_else i y ys n) in
    let b = times_without i j ys in
    omega arith)
