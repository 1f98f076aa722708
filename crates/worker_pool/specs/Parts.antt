-- Parts that wait on a board, and what a worker keeps. This project's own rules.
use Rattle.std.specs.Prelude.{◌≡◌, ℕ, List, Option, All, IfSome}
use mathlib.Core.Option.{some}
use lib.ListN.{get_elem?}
use Rattle.crossbeam_deque.specs.Handles.{worker_flavor}
use Rattle.crossbeam_deque.specs.declared.handles.Worker.{Worker}
use Rattle.hand_board.specs.Placed.{IsUnderWay}
use Rattle.hand_board.specs.Seating.{Seating}

-- each part may be run
abbrev pub AreReady : {T : Type 0} → (T → Type 0) → List T → Type 0
AreReady {T} ready xs = (k : ℕ) (x : T) → get_elem? xs k ≡ some x → ready x

-- What has come of the part of this number can be worked on, and where that ends the part is
-- finished.
abbrev pub IsOnItsWay : {T : Type 0} → (T → Type 0) → (T → T → Type 0) → (T → T → Type 0) → List T
    → ℕ → T → Type 0
IsOnItsWay {T} ready ends finished opened number now =
    (x : T) × (get_elem? opened number ≡ some x) × IsUnderWay ready ends finished x now

-- the seat but for what it has found and has in hand
abbrev pub IsSameSeat : {T : Type 0} → Seating T → Seating T → Type 0
IsSameSeat old new =
    (new.board ≡ old.board) × (new.opened ≡ old.opened) × (new.share ≡ old.share)

-- each deque is first in, first out
abbrev pub AreFifo : {T A V P : Type 0} → List (Worker T A V P) → Type 0
AreFifo = All (λ w. worker_flavor w ≡ 0)

-- the deque is first in, first out, where there is one
abbrev pub IsFifo : {T A V P : Type 0} → Option (Worker T A V P) → Type 0
IsFifo own = IfSome own (λ w. worker_flavor w ≡ 0)
