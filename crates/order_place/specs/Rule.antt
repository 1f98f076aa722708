-- The rule of a place for orders, and what each kind of step tells the seat that takes it. This
-- project's own rule.
use Rattle.std.specs.Prelude.{◌≡◌, ◌≢◌, ℕ, List, [], ◌∷◌, Option, Some, None, ◌⊎◌}
use mathlib.Core.Option.{some, none}
use mathlib.Core.Option as maybe
use Rattle.atomic_table.specs.Table.{State, Me, Step, rest}
use Rattle.order_place.specs.declared.rule.Knows.{Knows}

module _ {T : Type 0} where
  -- A seat by its end: 0 the only one, before the slot is its own; 5 the only one, with the slot;
  -- 1 the caller's; 2 the caller's, which has both; 3 the worker's; 4 one that was given up.
  abbrev pub alone : ℕ → Knows T
  alone end = record { end = end; out = []; hand = [] }

  abbrev pub giver : List T → Knows T
  giver out = record { end = 1; out = out; hand = [] }

  abbrev pub taker : List T → Knows T
  taker hand = record { end = 3; out = []; hand = hand }

  abbrev pub with_both : Knows T → Knows T
  with_both v = record { end = 2; out = v.out; hand = [] }

  -- the caller's seat with nothing out: it holds the empty slot
  abbrev pub free : Me (Option T) (Knows T)
  free = (giver [], (0, None) ∷ [])

  -- the caller's seat with this order out
  abbrev pub lent : T → Me (Option T) (Knows T)
  lent x = (giver (x ∷ []), [])

  -- the worker's seat with nothing in hand
  abbrev pub idle : Me (Option T) (Knows T)
  idle = (taker [], [])

  -- the worker's seat with this order in hand: it holds the empty slot
  abbrev pub busy : T → Me (Option T) (Knows T)
  busy y = (taker (y ∷ []), (0, None) ∷ [])

  -- no order is out
  abbrev pub IsEmpty : ℕ → List T → List T → maybe.Option (Option T) → Type 0
  IsEmpty word out hand home = (word ≡ 0) × (out ≡ []) × (hand ≡ []) × (home ≡ none)

  -- the order that is out lies there, not taken or put back
  abbrev pub IsLaid : (T → T → Type 0) → ℕ → List T → List T → maybe.Option (Option T) → Type 0
  IsLaid same word out hand home = (x : T) × (y : T) × ((word ≡ 1) ⊎ (word ≡ 3)) × (out ≡ x ∷ [])
      × (hand ≡ []) × (home ≡ some (Some y)) × same x y

  -- the worker has the order that is out
  abbrev pub IsHeld : (T → T → Type 0) → ℕ → List T → List T → maybe.Option (Option T) → Type 0
  IsHeld same word out hand home = (x : T) × (y : T) × (word ≡ 2) × (out ≡ x ∷ [])
      × (hand ≡ y ∷ []) × (home ≡ none) × same x y

  abbrev pub Stands : (T → T → Type 0) → ℕ → List T → List T → maybe.Option (Option T) → Type 0
  Stands same word out hand home = IsEmpty word out hand home
      ⊎ (IsLaid same word out hand home ⊎ IsHeld same word out hand home)

  -- the two ends, or the caller with both
  abbrev pub ArePair : Knows T → Knows T → Type 0
  ArePair c v = ((c.end ≡ 1) × (v.end ≡ 3)) ⊎ ((c.end ≡ 2) × (v.end ≡ 4) × (v.hand ≡ []))

  -- the only seat, without the slot or with it
  abbrev pub IsOnly : ℕ → maybe.Option (Option T) → Knows T → Type 0
  IsOnly word home c = ((c.end ≡ 0) × (word ≡ 0) × (home ≡ some None))
      ⊎ ((c.end ≡ 5) × (word ≡ 0) × (home ≡ none))

  abbrev pub Seats : (T → T → Type 0) → ℕ → maybe.Option (Option T) → List (Knows T) → Type 0
  Seats same word home [] = ⊥
  Seats same word home (c ∷ []) = IsOnly word home c
  Seats same word home (c ∷ v ∷ []) = ArePair c v × Stands same word c.out v.hand home
  Seats same word home (c ∷ v ∷ u ∷ us) = ⊥

  -- one word and one slot, and what the seats know of them
  abbrev pub Holds : (T → T → Type 0) → State (Option T) (Knows T) → Type 0
  Holds same s = (word : ℕ) × (home : maybe.Option (Option T)) × (s.words ≡ word ∷ [])
      × (s.homes ≡ home ∷ []) × Seats same word home s.views

  -- the only seat has the slot
  abbrev pub Opened : Step (Option T) → Me (Option T) (Knows T) → ℕ → Me (Option T) (Knows T)
      → Type 0
  Opened st m r n = n ≡ (alone 5, (0, None) ∷ [])

  -- the order in the slot that was taken last
  abbrev pub order_in : List (ℕ × Option T) → List T
  order_in [] = []
  order_in ((k, None) ∷ xs) = []
  order_in ((k, Some x) ∷ xs) = x ∷ []

  -- the order that was in the slot is out
  abbrev pub Laid : Step (Option T) → Me (Option T) (Knows T) → ℕ → Me (Option T) (Knows T)
      → Type 0
  Laid st m r n = n ≡ (giver (order_in m.1), rest m.1)

  -- where the word was 1 the order is in hand, and its slot
  abbrev pub Taken : Step (Option T) → Me (Option T) (Knows T) → ℕ → Me (Option T) (Knows T)
      → Type 0
  Taken st m r n = (r ≡ 1 → (y : T) × (n ≡ (taker (y ∷ []), (0, Some y) ∷ []))) × (r ≢ 1 → n ≡ m)

  -- nothing is in hand
  abbrev pub HasPutBack : Step (Option T) → Me (Option T) (Knows T) → ℕ → Me (Option T) (Knows T)
      → Type 0
  HasPutBack st m r n = n ≡ idle

  -- the order that was out is there again
  abbrev pub IsBack : (T → T → Type 0) → ℕ → Me (Option T) (Knows T) → Me (Option T) (Knows T)
      → Type 0
  IsBack same end m n = (x : T) × (y : T) × (m.0.out ≡ x ∷ []) × same x y
      × (n ≡ (record { end = end; out = []; hand = [] }, (0, Some y) ∷ []))

  -- where the word was as told, the order that was out is there again
  abbrev pub Fetched : (T → T → Type 0) → Step (Option T) → Me (Option T) (Knows T) → ℕ
      → Me (Option T) (Knows T) → Type 0
  Fetched same st m r n = (r ≡ st.first → IsBack same 1 m n) × (r ≢ st.first → n ≡ m)

  abbrev pub Settled : (T → T → Type 0) → Step (Option T) → Me (Option T) (Knows T) → ℕ
      → Me (Option T) (Knows T) → Type 0
  Settled same st m r n = IsBack same 2 m n
