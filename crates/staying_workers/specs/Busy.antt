-- Workers with an order at a board. This project's own rules.
use Rattle.std.specs.Prelude.{◌≡◌, ℕ, List, [], ◌∷◌, map}
use Rattle.std.specs.List.{sum_by}
use Rattle.atomic_table.specs.Seated.{TableId}
use Rattle.order_place.specs.Rule.{giver}
use Rattle.order_place.specs.declared.worker.Worker.{Worker}
use Rattle.staying_workers.specs.declared.held.Held.{Held}
use Rattle.staying_workers.specs.declared.orders.PackOrder.{PackOrder}

-- the worker has one order, with a loan of this term and a seat at this board, which knows these
-- packs
abbrev pub IsWorkerAt : {G : Type 0} → ℕ → TableId → List Held → Worker (PackOrder G) → Type 0
IsWorkerAt {G} term board opened w = (w.seat.me ≡ (giver w.seat.me.0.out, []))
    × (map (λ (x : PackOrder G). x.board.term) w.seat.me.0.out ≡ term ∷ [])
    × (map (λ (x : PackOrder G). x.seat.board) w.seat.me.0.out ≡ board ∷ [])
    × (map (λ (x : PackOrder G). x.seat.opened) w.seat.me.0.out ≡ opened ∷ [])

-- what the worker's order has of the share
abbrev pub share_out : {G : Type 0} → Worker (PackOrder G) → ℕ
share_out {G} w = sum_by (λ (x : PackOrder G). x.seat.share) w.seat.me.0.out
