-- Where each pack is, whatever the words of the table say it by. This project's own rule.
use Rattle.std.specs.Prelude.{◌≡◌, ℕ, Bool, true, false, ◌+◌, ◌-◌, ◌/◌, ◌<◌, ◌==◌, if◌then◌else◌}
use Rattle.std.specs.Prelude.{List, [], ◌∷◌, length, Option, Some, None}
use mathlib.Core.Option.{some}
use mathlib.Core.Option as maybe
use lib.ListN.{get_elem?}
use Rattle.hand_board.specs.declared.rule.Knows.{Knows}

-- 1 where it is so, else 0
abbrev pub count_where : Bool → ℕ
count_where true = 1
count_where false = 0

-- how often x stands in the list
abbrev pub times : ℕ → List ℕ → ℕ
times x [] = 0
times x (y ∷ ys) = count_where (y == x) + times x ys

-- the list without the first x
abbrev pub without : ℕ → List ℕ → List ℕ
without x [] = []
without x (y ∷ ys) = if y == x then ys else y ∷ without x ys

-- the list without its first
abbrev pub tail : List ℕ → List ℕ
tail [] = []
tail (x ∷ xs) = xs

-- f of each, added up
abbrev pub total : {V : Type 0} → (V → ℕ) → List V → ℕ
total f [] = 0
total f (v ∷ vs) = f v + total f vs

-- in how many hands a number is: in one in phase 1, and else in none
abbrev pub once : ℕ → ℕ
once phase = count_where (phase == 1)

-- What has come of x can be worked on, and where that ends x is finished.
abbrev pub IsUnderWay : {T : Type 0} → (ready : T → Type 0) → (ends finished : T → T → Type 0) → T
    → T → Type 0
IsUnderWay {T} ready ends finished x y = ready y × ((z : T) → ends y z → finished x z)

-- the shares of all seats
abbrev pub whole_share : ℕ
whole_share = 4294967296

module _ {T : Type 0} where
  -- the places of the numbers in a hand, each empty
  abbrev pub blanks : List ℕ → List (ℕ × Option T)
  blanks [] = []
  blanks (i ∷ is) = (i, None) ∷ blanks is

  -- A seat with a share knows the packs as the board opened. A spent one has nothing.
  pub record Knowing (opened : List T) (v : Knows T) : Type 0 where
    pub told : 0 < v.share → v.opened ≡ opened
    pub spent : v.share ≡ 0 → (v.hand ≡ []) × (v.found ≡ [])

  -- what has come of the pack of a number lies at home, and is so related to its opening
  abbrev pub Lies : (T → T → Type 0) → List T → List (maybe.Option (Option T)) → ℕ → Type 0
  Lies so opened homes i = (x : T) → get_elem? opened i ≡ some x
      → (y : T) × (get_elem? homes i ≡ some (some (Some y))) × so x y

  -- The pack of a number lies at home, as it opened, in phase 0; it is in one hand in phase 1; it
  -- lies at home finished in phase 2, and put back under way in phase 3. `homes` has what lies in
  -- each slot that no seat holds.
  pub record Placed (finished under_way : T → T → Type 0) (opened : List T) (phase : ℕ → ℕ)
      (homes : List (maybe.Option (Option T))) (views : List (Knows T)) : Type 0 where
    pub level : length homes ≡ length opened
    pub unbegun : (i : ℕ) (x : T) → get_elem? opened i ≡ some x → phase i ≡ 0
        → get_elem? homes i ≡ some (some (Some x))
    pub held : (i : ℕ) → total (λ (v : Knows T). times i v.hand) views ≡ once (phase i)
    pub done : (i : ℕ) → phase i ≡ 2 → Lies finished opened homes i
    pub waiting : (i : ℕ) → phase i ≡ 3 → Lies under_way opened homes i
    pub shares : total (λ (v : Knows T). v.share) views ≡ whole_share
    pub knowing : (j : ℕ) (v : Knows T) → get_elem? views j ≡ some v → Knowing opened v

  -- what the first seat knows
  abbrev pub first_view : List T → Knows T
  first_view xs = record { opened = xs; share = whole_share; hand = []; found = [] }

  -- what is left of a seat that was joined to another
  abbrev pub spent_view : Knows T
  spent_view = record { opened = []; share = 0; hand = []; found = [] }

  -- with i at the front of the hand, where it is in it
  abbrev pub to_front : ℕ → Knows T → Knows T
  to_front i v = record v { hand = i ∷ without i v.hand }

  -- the front of the hand has left it
  abbrev pub without_front : Knows T → Knows T
  without_front v = record v { hand = tail v.hand }

  -- the two seats of a split: the first keeps the hand, both have found the same
  abbrev pub left_half : Knows T → Knows T
  left_half v = record v { share = v.share / 2 }

  abbrev pub right_half : Knows T → Knows T
  right_half v = record v { share = v.share - v.share / 2; hand = [] }
