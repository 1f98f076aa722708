use Rattle.std.proofs.Common.{◌≡◌, []}
use Rattle.worker_pool.proofs.slices.resume_all.Given as goal

abbrev pub invariant-loop : goal.invariant-loop
invariant-loop g l =
    (l.seat.board ≡ l.fn.seat.board)
    × (l.seat.opened ≡ l.fn.seat.opened)
    × (l.seat.share ≡ l.fn.seat.share)
    × (l.seat.hand ≡ [])
    × (l.seat.ended ≡ l.fn.seat.ended)
