-- Where the pack of each number is, in words of seats. This project's own rule.
use Rattle.std.specs.Prelude.{◌≡◌, ◌⊎◌, ℕ, List, Option}
use mathlib.Core.Option.{some}
use mathlib.Core.Option as maybe
use lib.ListN.{get_elem?}
use Rattle.hand_board.specs.declared.rule.Knows.{Knows}
use Rattle.hand_board.specs.Placed.{Lies, times}
use Rattle.hand_board.specs.Seating.{Has}

module _ {T : Type 0} where
  -- No two seats have one number in hand.
  abbrev pub AreApart : List (Knows T) → Type 0
  AreApart views = (i j k : ℕ) (v w : Knows T) → get_elem? views j ≡ some v
      → get_elem? views k ≡ some w → Has i v.hand → Has i w.hand → j ≡ k

  -- One seat has the number in hand, once, and no other seat has it.
  pub record InOneHand (i : ℕ) (views : List (Knows T)) : Type 0 where
    pub seat : ℕ
    pub view : Knows T
    pub sits : get_elem? views seat ≡ some view
    pub once : times i view.hand ≡ 1
    pub alone : (j : ℕ) (v : Knows T) → get_elem? views j ≡ some v → Has i v.hand → j ≡ seat

  -- no seat has it in hand
  abbrev pub InNoHand : ℕ → List (Knows T) → Type 0
  InNoHand i views = (j : ℕ) (v : Knows T) → get_elem? views j ≡ some v → times i v.hand ≡ 0

  -- The pack of a number is in one hand; or it is in none, and lies at home as it opened, or
  -- finished, or put back under way.
  abbrev pub InOnePlace : (finished under_way : T → T → Type 0) → (opened : List T)
      → (homes : List (maybe.Option (Option T))) → (views : List (Knows T)) → ℕ → Type 0
  InOnePlace finished under_way opened homes views i =
      InOneHand i views
      ⊎ (InNoHand i views × (Lies (λ x y. y ≡ x) opened homes i ⊎ Lies finished opened homes i
      ⊎ Lies under_way opened homes i))
