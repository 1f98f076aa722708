use Rattle.std.proofs.Common.{◌≡◌, []}
use Rattle.worker_pool.proofs.slices.begin_between.Given as goal

abbrev pub invariant-loop-number : goal.invariant-loop-number
invariant-loop-number g l =
    (l.seat.board ≡ l.fn.seat.board)
    × (l.seat.opened ≡ l.fn.seat.opened)
    × (l.seat.share ≡ l.fn.seat.share)
    × (l.seat.hand ≡ [])
