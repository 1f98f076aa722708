-- A seat as its callers see it, and what is always true of one.
use Rattle.std.specs.Prelude.{◌≡◌, ◌≢◌, ℕ, Bool, true, ◌+◌, ◌<◌, ◌≤◌, List, [], ◌∷◌, length}
use Rattle.std.specs.Prelude.{Option, Some, None, slice_index}
use mathlib.Core.Option.{some}
use lib.ListN.{get_elem?}
use Rattle.atomic_table.specs.Seated.{TableId}
use Rattle.atomic_table.specs.Table.{Me}
use Rattle.hand_board.specs.declared.rule.Knows.{Knows}
use Rattle.hand_board.specs.Placed.{times, blanks, whole_share}

-- of which board, the packs as they opened, the share, the numbers found begun, those in the hand,
-- from where on it searches, and whether it has ended
pub record Seating (T : Type 0) : Type 0 where
  pub board : TableId
  pub opened : List T
  pub share : ℕ
  pub found : List ℕ
  pub hand : List ℕ
  pub next : ℕ
  pub ended : Bool

abbrev pub Has : ℕ → List ℕ → Type 0
Has k l = 0 < times k l

module _ {T : Type 0} where
  pub record Sits (board : TableId) (me : Me (Option T) (Knows T)) (share next : ℕ)
      (ended : Bool) : Type 0 where
    pub sized : (board.words ≡ length me.0.opened + 1) × (board.slots ≡ length me.0.opened)
    pub slots : me.1 ≡ blanks me.0.hand
    pub share_is : me.0.share ≡ share
    pub positive : (0 < share) × (share ≤ whole_share)
    pub low : (k : ℕ) → Has k me.0.hand → k < length me.0.opened
    pub below : (k : ℕ) → k < next → Has k me.0.found
    pub all : ended ≡ true → (k : ℕ) → k < length me.0.opened → Has k me.0.found

  abbrev pub seating : TableId → Me (Option T) (Knows T) → ℕ → ℕ → Bool → Seating T
  seating board me share next ended =
      record {
        board = board;
        opened = me.0.opened;
        share = share;
        found = me.0.found;
        hand = me.0.hand;
        next = next;
        ended = ended;
      }

  -- the values that are there, in order
  abbrev pub values : List (Option T) → List T
  values [] = []
  values (None ∷ os) = values os
  values (Some x ∷ os) = x ∷ values os

  -- what lies in slot i of a closed table: what has come of its pack, finished, or under way where
  -- its word is 3
  abbrev pub Rests : (finished under_way : T → T → Type 0) → List T → List ℕ → List (Option T) → ℕ
      → Type 0
  Rests finished under_way opened words slots i = (x : T) → get_elem? opened i ≡ some x
      → (y : T) × (get_elem? slots i ≡ some (Some y))
      × (slice_index words (i + 1) ≢ 3 → finished x y)
      × (slice_index words (i + 1) ≡ 3 → under_way x y)

  -- as many, each finished from its opening, in order
  abbrev pub AllFinished : (T → T → Type 0) → List T → List T → Type 0
  AllFinished finished [] [] = Unit {0}
  AllFinished finished [] (y ∷ ys) = ⊥
  AllFinished finished (x ∷ xs) [] = ⊥
  AllFinished finished (x ∷ xs) (y ∷ ys) = finished x y × AllFinished finished xs ys

-- which board, the packs as they opened, and the room of the vector in which they came
pub record Standing (T : Type 0) : Type 0 where
  pub id : TableId
  pub opened : List T
  pub room : ℕ

-- what is always true of a board: its counts, and an empty vector with room for all
pub record IsBoard {T : Type 0} (id : TableId) (opened : List T) (count len room : ℕ) : Type 0
  where
    pub sized : (id.words ≡ count + 1) × (id.slots ≡ count)
    pub all : length opened ≡ count
    pub roomy : (len ≡ 0) × (count ≤ room)

abbrev pub standing : {T : Type 0} → TableId → List T → ℕ → Standing T
standing id opened room = record { id = id; opened = opened; room = room }
