-- Seats at a board of the tests.
use Rattle.std.specs.Prelude.{ℕ, ◌≡◌, List}
use Rattle.hand_board.specs.Seating.{Seating, Standing}

module _ {T : Type 0} where
  -- a seat of the board, with these numbers in its hand
  abbrev pub IsAt : Standing T → Seating T → List ℕ → Type 0
  IsAt b s hand = (s.board ≡ b.id) × (s.opened ≡ b.opened) × (s.hand ≡ hand)
