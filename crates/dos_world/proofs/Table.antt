-- A number without a row is no service.
use Rattle.std.proofs.Common.{ℕ, ◌<◌, ◌≤◌, ◌≡◌, ◌≢◌, ◌⊎◌, inl, inr, refl, ap, subst, sym, Bool}
use Rattle.std.proofs.Common.{cond, true, false, not, List, [], ◌∷◌, Some, None, arith}
use Rattle.std.specs.Prelude.{◌==◌, nat_le, find}
use Rattle.std.specs.List.{list_all}
use Rattle.std.proofs.lemmas.Bool.{and_parts, and_from, leb-true, ne_eqb, not_from_false}
use Rattle.std.proofs.lemmas.Bool.{true≢false}
use Rattle.dos_world.specs.Calls.{Call, Service, refuses}
use Rattle.dos_world.specs.Services.{services, service_by, service_of}

find_none : {A : Type 0} (test : A → Bool) (xs : List A) → list_all (λ x. not (test x)) xs ≡ true
    → find test xs ≡ None
find_none test [] h = refl
find_none test (x ∷ xs) h = let p = and_parts (not (test x)) (list_all (λ x. not (test x)) xs) h in
    by_first (test x) p.0 (find_none test xs p.1)
  where
    by_first : (b : Bool) → not b ≡ true → find test xs ≡ None
        → cond b (Some x) (find test xs) ≡ None
    by_first true q rest = absurd (true≢false (sym q))
    by_first false q rest = rest

none_above : (n : ℕ) (rows : List (ℕ × Service)) → 24 < n
    → list_all (λ row. nat_le row.0 24) rows ≡ true → list_all (λ row. not (row.0 == n)) rows ≡ true
none_above n [] over h = refl
none_above n (row ∷ rows) over h =
    let p = and_parts (nat_le row.0 24) (list_all (λ row. nat_le row.0 24) rows) h in
    let low : row.0 ≤ 24 = leb-true row.0 24 p.0 in
    let other : row.0 ≢ n = omega arith in
    and_from (not (row.0 == n)) (list_all (λ row. not (row.0 == n)) rows)
    (not_from_false (row.0 == n) (ne_eqb row.0 n other)) (none_above n rows over p.1)

all_to_24 : list_all (λ row. nat_le row.0 24) services ≡ true
unfolding services
all_to_24 = refl

none_is_0 : list_all (λ row. not (row.0 == 0)) services ≡ true
unfolding services
none_is_0 = refl

pub unknown-refused : (n : ℕ) → (n ≡ 0) ⊎ (24 < n) → (c : Call) → service_of n c ≡ refuses 38 c
unknown-refused n (inl zero) c =
    subst (λ m. service_of m c ≡ refuses 38 c) (sym zero)
    (ap (λ o. service_by o c) (find_none (λ row. row.0 == 0) services none_is_0))
unknown-refused n (inr over) c =
    ap (λ o. service_by o c)
    (find_none (λ row. row.0 == n) services (none_above n services over all_to_24))
