-- Workers that have one seat of a board among them. This project's own rules.
use Rattle.std.specs.Prelude.{◌≡◌, ◌≤◌, ℕ, List, [], length}
use Rattle.std.specs.List.{sum_by}
use Rattle.hand_board.specs.Seating.{Standing}
use Rattle.worker_pool.specs.Parts.{AreReady, IsFifo}
use Rattle.worker_pool.specs.declared.crew.Worker.{Worker}

-- The worker's seat is one of this board, with nothing in hand; each part may be run, and what
-- comes out of a deque is a number of the board.
pub record CanWork {B T : Type 0} (ready : T → Type 0) (bound : ℕ) (board : Standing T)
    (worker : Worker B T) : Type 0 where
  pub seated : worker.seat.board ≡ board.id
  pub free : worker.seat.hand ≡ []
  pub startable : AreReady ready worker.seat.opened
  pub fifo : IsFifo worker.own
  pub numbers : bound ≤ length board.opened

-- what the workers' seats have of the share
abbrev pub shares : {B T : Type 0} → List (Worker B T) → ℕ
shares = sum_by (λ w. w.seat.share)
