-- Where the pack of each number is.
use Rattle.std.proofs.Common.{◌≡◌, ◌≢◌, ℕ, zero, suc, ◌<◌, ◌≤◌, List, [], ◌∷◌, Option, refl, sym}
use Rattle.std.proofs.Common.{ap, ◌∙◌, ◌⊎◌, ◌+◌, arith, inl, inr}
use Rattle.std.specs.Prelude.{slice_index}
use mathlib.Core.Logic.{dite}
use mathlib.Core.Option.{some, some-injective}
use native.Mathlib.Decide.{ℕ_discrete}
use lib.ListN.{get_elem?}
use Rattle.atomic_table.specs.Table.{State}
use Rattle.hand_board.specs.declared.rule.Knows.{Knows}
use Rattle.hand_board.specs.Placed.{Lies, once, times, total}
use Rattle.hand_board.specs.Places.{AreApart, InNoHand, InOneHand, InOnePlace}
use Rattle.hand_board.specs.Rule.{Holds}
use Rattle.hand_board.proofs.Counts.{once_none, total_part}

-- ---- a total of 1 is one value's

module _ {V : Type 0} (f : V → ℕ) where
  behind : (x : V) (xs : List V) → total f xs ≡ 0 → (k : ℕ) (u : V)
      → get_elem? (x ∷ xs) k ≡ some u → 0 < f u → k ≡ 0
  behind x xs z zero u e p = refl
  behind x xs z (suc k) u e p = let q = total_part f xs k u e in absurd (omega arith)

  before : (x : V) (xs : List V) (j : ℕ) → f x ≡ 0
      → ((k : ℕ) (u : V) → get_elem? xs k ≡ some u → 0 < f u → k ≡ j) → (k : ℕ) (u : V)
      → get_elem? (x ∷ xs) k ≡ some u → 0 < f u → k ≡ suc j
  before x xs j z h zero u e p =
      let q : f x ≡ f u = ap f (some-injective x u e) in absurd (omega arith)
  before x xs j z h (suc k) u e p = ap suc (h k u e p)

  pub one_of : (vs : List V) → total f vs ≡ 1 → (j : ℕ) × (v : V) × (get_elem? vs j ≡ some v)
      × (f v ≡ 1) × ((k : ℕ) (u : V) → get_elem? vs k ≡ some u → 0 < f u → k ≡ j)
  one_of [] e = absurd (omega arith)
  one_of (x ∷ xs) e = dite (ℕ_discrete (f x) 1)
      (λ one. (0, x, refl, one, behind x xs (omega arith)))
      (λ other. let z : f x ≡ 0 = few (f x) (omega arith) other in
      let r = one_of xs (omega arith) in
      (suc r.0, r.1, r.2, r.3, before x xs r.0 z r.4))
    where
      few : (n : ℕ) → n ≤ 1 → n ≢ 1 → n ≡ 0
      few zero h not = refl
      few (suc zero) h not = absurd (not refl)
      few (suc (suc n)) h not = absurd (omega arith)

-- ---- of a board of which the rule holds

module _ {T : Type 0} (finished under_way : T → T → Type 0) (opened : List T)
    (s : State (Option T) (Knows T)) (h : Holds finished under_way opened s) where
  abbrev phase : ℕ → ℕ
  phase i = slice_index s.words (i + 1)

  in_one : (i : ℕ) → phase i ≡ 1 → InOneHand i s.views
  in_one i is =
      let r = one_of (λ (v : Knows T). times i v.hand) s.views (h.placed.held i ∙ ap once is) in
      record { seat = r.0; view = r.1; sits = r.2; once = r.3; alone = r.4 }

  in_none : (i : ℕ) → phase i ≢ 1 → InNoHand i s.views
  in_none i not j v e =
      let part = total_part (λ (v : Knows T). times i v.hand) s.views j v e in
      let none = h.placed.held i ∙ once_none (phase i) not in
      omega arith

  pub apart : AreApart s.views
  apart i j k v w at at' has has' = dite (ℕ_discrete (phase i) 1)
      (λ is. let r = in_one i is in r.alone j v at has ∙ sym (r.alone k w at' has'))
      (λ not. let none = in_none i not j v at in absurd (omega arith))

  at_home : (i : ℕ) → phase i ≢ 1 → (p : ℕ) → phase i ≡ p → p ≤ 3
      → (Lies (λ x y. y ≡ x) opened s.homes i ⊎ Lies finished opened s.homes i
      ⊎ Lies under_way opened s.homes i)
  at_home i not zero is few =
      inl (λ x at. (x, h.placed.unbegun i x at is, refl))
  at_home i not (suc zero) is few = absurd (not is)
  at_home i not (suc (suc zero)) is few = inr (inl (h.placed.done i is))
  at_home i not (suc (suc (suc zero))) is few = inr (inr (h.placed.waiting i is))
  at_home i not (suc (suc (suc (suc p)))) is few = absurd (omega arith)

  pub in_one_place : (i : ℕ) → InOnePlace finished under_way opened s.homes s.views i
  in_one_place i = dite (ℕ_discrete (phase i) 1) (λ is. inl (in_one i is))
      (λ not. inr (in_none i not, at_home i not (phase i) refl (h.small i)))
