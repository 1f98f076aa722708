use Rattle.std.proofs.Common.{◌≡◌, ◌-◌, [], length}
use Rattle.worker_pool.proofs.slices.share.Given as goal

abbrev pub invariant-loop : goal.invariant-loop
invariant-loop g l =
    (l.seat.board ≡ l.fn.seat.board)
    × (l.seat.opened ≡ l.fn.seat.opened)
    × (l.seat.share ≡ l.fn.seat.share)
    × (l.seat.hand ≡ [])

abbrev pub decreases-loop : goal.decreases-loop
decreases-loop g l = length l.board.opened - l.seat.next
