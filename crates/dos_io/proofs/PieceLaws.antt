-- What a host in memory tells, after bytes left the front.
use Rattle.std.proofs.Common.{◌≡◌, ◌<◌, ◌≤◌, ◌∙◌, ℕ, zero, suc, ◌-◌, ◌+◌, cond, eqb, List, [], ◌∷◌}
use Rattle.std.proofs.Common.{length, take, drop, refl, sym, ap, ap₂, subst, arith, inl, inr}
use Rattle.std.proofs.lemmas.Bool.{le-leb, lt-leb, cases_lt, cases_eq, eq-eqb, ne_eqb}
use Rattle.std.proofs.lemmas.List.{length-drop, length-take, take_all, take-take, drop_all}
use Rattle.std.proofs.lemmas.List.{drop-drop, drop-take}
use Rattle.dos_io.specs.Hosts.{taken}
use Rattle.dos_io.specs.HostMemory.{cut, pieces_of}

cut_same : (m n first size : ℕ) (bytes : List ℕ) → length bytes ≤ m → length bytes ≤ n
    → cut m first size bytes ≡ cut n first size bytes
cut_same zero zero first size bytes p q = refl
cut_same zero (suc n) first size [] p q = refl
cut_same zero (suc n) first size (b ∷ bytes) p q = absurd (omega arith)
cut_same (suc m) zero first size [] p q = refl
cut_same (suc m) zero first size (b ∷ bytes) p q = absurd (omega arith)
cut_same (suc m) (suc n) first size [] p q = refl
cut_same (suc m) (suc n) first size (b ∷ bytes) p q =
    ap (λ (ps : List (List ℕ)). (b ∷ take (first - 1) bytes) ∷ ps)
    (cut_same m n size size (drop (first - 1) bytes) (omega (arith, length-drop (first - 1) bytes))
    (omega (arith, length-drop (first - 1) bytes)))

-- the first piece, and the others
first_piece : (first size : ℕ) (bytes : List ℕ) → 1 ≤ first → 0 < length bytes
    → pieces_of first size bytes ≡ take first bytes ∷ pieces_of size size (drop first bytes)
first_piece zero size bytes one some = absurd (omega arith)
first_piece (suc first) size [] one some = absurd (omega arith)
first_piece (suc first) size (b ∷ bytes) one some =
    let same : suc first - 1 ≡ first = omega arith in
    rw same (ap (λ (ps : List (List ℕ)). (b ∷ take first bytes) ∷ ps)
    (cut_same (length bytes) (length (drop first bytes)) size size (drop first bytes)
    (omega (arith, length-drop first bytes)) (omega arith)))

-- all of the first piece leaves
pub all_leaves : (max first size : ℕ) (bytes : List ℕ) → 1 ≤ first → 0 < length bytes
    → length (take first bytes) ≤ max → taken max (pieces_of first size bytes)
    ≡ (take first bytes, pieces_of size size (drop first bytes))
all_leaves max first size bytes one some le =
    ap (taken max) (first_piece first size bytes one some) ∙ rw (le-leb _ _ le) refl

-- a part of it leaves
part_leaves : (max first size : ℕ) (bytes : List ℕ) → max < first → max < length bytes
    → taken max (pieces_of first size bytes)
    ≡ (take max bytes, pieces_of (first - max) size (drop max bytes))
part_leaves max first size bytes less some =
    let whole : first ≡ max + (first - max) = omega arith in
    let front : drop max (take first bytes) ≡ take (first - max) (drop max bytes) =
    ap (λ (n : ℕ). drop max (take n bytes)) whole ∙ drop-take max (first - max) bytes in
    let behind : drop first bytes ≡ drop (first - max) (drop max bytes) =
    ap (λ (n : ℕ). drop n bytes) whole ∙ sym (drop-drop (first - max) max bytes) in
    let left : take (first - max) (drop max bytes) ∷ pieces_of size size
    (drop (first - max) (drop max bytes)) ≡ pieces_of (first - max) size (drop max bytes) =
    sym (first_piece (first - max) size (drop max bytes) (omega arith)
    (omega (arith, length-drop max bytes))) in
    let pieces : drop max (take first bytes) ∷ pieces_of size size (drop first bytes)
    ≡ pieces_of (first - max) size (drop max bytes) =
    ap₂ (λ (p : List ℕ) (l : List ℕ). p ∷ pieces_of size size l) front behind ∙ left in
    ap (taken max) (first_piece first size bytes (omega arith) (omega arith))
    ∙ rw (lt-leb (length (take first bytes)) max (omega (arith, length-take first bytes)))
    (ap₂ (λ (p : List ℕ) (ps : List (List ℕ)). (p, ps)) (take-take max first bytes (omega arith))
    pieces)

-- the input is at its end then
none_left : (max first size m : ℕ) (bytes : List ℕ) → 1 ≤ first → length bytes ≤ max
    → length bytes ≤ first → taken max (pieces_of first size bytes) ≡ (bytes, pieces_of m size [])
none_left max first size m [] one le le' = refl
none_left max first size m (b ∷ bytes) one le le' =
    all_leaves max first size (b ∷ bytes) one (omega arith)
    (omega (arith, length-take first (b ∷ bytes)))
    ∙ ap₂ (λ (p : List ℕ) (ps : List (List ℕ)). (p, ps)) (take_all first (b ∷ bytes) le')
    (ap (pieces_of size size) (drop_all first (b ∷ bytes) le'))

pub count_leaves : (max count first size : ℕ) (bytes : List ℕ) → 1 ≤ first → 0 < max → count ≤ max
    → count ≤ first → count ≤ length bytes → (count < max → count < first → count ≡ length bytes)
    → taken max (pieces_of first size bytes)
    ≡ (
      take count bytes,
      pieces_of (cond (eqb count first) size (first - count)) size
          (drop count bytes),
    )
count_leaves max count first size bytes one some le le' le'' most = elim (cases_eq count first) [
  | inl is ↦
      let n : length (take first bytes) ≤ max = omega (arith, length-take first bytes) in
      rw (eq-eqb count first is)
      (subst (λ (k : ℕ). taken max (pieces_of first size bytes)
      ≡ (take k bytes, pieces_of size size (drop k bytes))) (sym is)
      (all_leaves max first size bytes one (omega arith) n))
  | inr isnt ↦ rw (ne_eqb count first isnt) (elim (cases_lt count (length bytes)) [
    | inl less ↦
        let full : count ≡ max = elim (cases_lt count max) [
          | inl lt ↦ absurd (let e = most lt (omega arith) in omega arith)
          | inr ge ↦ omega arith
        ] in
        subst (λ (k : ℕ). taken max (pieces_of first size bytes)
        ≡ (take k bytes, pieces_of (first - k) size (drop k bytes))) (sym full)
        (part_leaves max first size bytes (omega arith) (omega arith))
    | inr all ↦
        none_left max first size (first - count) bytes one (omega arith) (omega arith)
        ∙ ap₂ (λ (p : List ℕ) (l : List ℕ). (p, pieces_of (first - count) size l))
        (sym (take_all count bytes all)) (sym (drop_all count bytes all))
  ])
]
