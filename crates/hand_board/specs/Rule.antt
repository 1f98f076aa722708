-- The rule of a board, and what each kind of step tells the seat that takes it. This project's own
-- rule.
use Rattle.std.specs.Prelude.{◌≡◌, ◌≢◌, ℕ, ◌+◌, ◌<◌, ◌≤◌, List, [], ◌∷◌, ◌++◌, length, Option}
use Rattle.std.specs.Prelude.{Some}
use Rattle.std.specs.Prelude.{slice_index}
use mathlib.Core.Option.{some}
use lib.ListN.{get_elem?}
use Rattle.atomic_table.specs.Table.{State, Me, Step, rest}
use Rattle.hand_board.specs.declared.rule.Knows.{Knows}
use Rattle.hand_board.specs.Placed.{Placed, times, without, whole_share, blanks, to_front}
use Rattle.hand_board.specs.Placed.{without_front}

module _ {T : Type 0} where
  -- Word 0 isn't used. The word of number i is word i + 1: 0 while its pack lies at home as the
  -- board opened, 1 while it is in a hand, 2 when it lies at home finished, 3 while it lies at home
  -- put back under way.
  pub record Holds (finished under_way : T → T → Type 0) (opened : List T)
      (s : State (Option T) (Knows T)) : Type 0 where
    pub wide : length s.words ≡ length opened + 1
    pub unused : slice_index s.words 0 ≡ 0
    pub small : (i : ℕ) → slice_index s.words (i + 1) ≤ 3
    -- where the packs are, the shares, and what seats know
    pub placed : Placed finished under_way opened (λ i. slice_index s.words (i + 1)) s.homes s.views
    -- what a seat has found is begun
    pub begun : (j : ℕ) (v : Knows T) → get_elem? s.views j ≡ some v → (i : ℕ) → 0 < times i v.found
        → slice_index s.words (i + 1) ≢ 0

  -- with i found
  abbrev pub with_found : ℕ → Knows T → Knows T
  with_found i v = record v { found = i ∷ v.found }

  -- with i found, and in hand
  abbrev pub with_claimed : ℕ → Knows T → Knows T
  with_claimed i v = record v { found = i ∷ v.found; hand = i ∷ v.hand }

  -- The number is found. Where its word r was 0 it is in hand too, with its slot, in which its pack
  -- lies as the board opened; then the seat hadn't found it before.
  abbrev pub ClaimedAt : ℕ → Me (Option T) (Knows T) → ℕ → Me (Option T) (Knows T) → Type 0
  ClaimedAt i m r n =
      (r ≡ 0 → (x : T) × (get_elem? m.0.opened i ≡ some x) × (times i m.0.found ≡ 0)
      × (n ≡ (with_claimed i m.0, (i, Some x) ∷ m.1)))
      × (r ≢ 0 → n ≡ (with_found i m.0, m.1))

  abbrev pub Claimed : Step (Option T) → Me (Option T) (Knows T) → ℕ → Me (Option T) (Knows T)
      → Type 0
  Claimed st m r n = (i : ℕ) → st.word ≡ i + 1 → ClaimedAt i m r n

  -- with i in hand
  abbrev pub with_resumed : ℕ → Knows T → Knows T
  with_resumed i v = record v { hand = i ∷ v.hand }

  -- Where the word r of the number was 3 it is in hand, with its slot, in which what has come of
  -- its pack lies under way. Else the seat is as it was.
  abbrev pub ResumedAt : (T → T → Type 0) → ℕ → Me (Option T) (Knows T) → ℕ
      → Me (Option T) (Knows T) → Type 0
  ResumedAt under_way i m r n =
      (r ≡ 3 → (x : T) × (y : T) × (get_elem? m.0.opened i ≡ some x) × under_way x y
      × (n ≡ (with_resumed i m.0, (i, Some y) ∷ m.1)))
      × (r ≢ 3 → n ≡ m)

  abbrev pub Resumed : (T → T → Type 0) → Step (Option T) → Me (Option T) (Knows T) → ℕ
      → Me (Option T) (Knows T) → Type 0
  Resumed under_way st m r n = (i : ℕ) → st.word ≡ i + 1 → ResumedAt under_way i m r n

  -- the number of the word comes to the front of the hand
  abbrev pub BroughtAt : ℕ → Me (Option T) (Knows T) → Me (Option T) (Knows T) → Type 0
  BroughtAt i m n = n ≡ (to_front i m.0, blanks (i ∷ without i m.0.hand))

  abbrev pub Brought : Step (Option T) → Me (Option T) (Knows T) → ℕ → Me (Option T) (Knows T)
      → Type 0
  Brought st m r n = (i : ℕ) → st.word ≡ i + 1 → BroughtAt i m n

  -- the number at the front leaves the hand
  abbrev pub Given : Step (Option T) → Me (Option T) (Knows T) → ℕ → Me (Option T) (Knows T)
      → Type 0
  Given st m r n = n ≡ (without_front m.0, rest m.1)

  -- both shares, and what either has found
  abbrev pub joined : Knows T → Knows T → Knows T
  joined v w = record v { share = v.share + w.share; found = v.found ++ w.found }

  -- no share is more than the whole
  abbrev pub Weighed : Step (Option T) → Me (Option T) (Knows T) → ℕ → Me (Option T) (Knows T)
      → Type 0
  Weighed st m r n = (n ≡ m) × (m.0.share ≤ whole_share)
