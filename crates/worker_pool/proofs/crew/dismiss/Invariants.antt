use Rattle.std.proofs.Common.{◌≡◌, ◌+◌, All, [], vec_len}
use Rattle.worker_pool.specs.Crews.{CanWork, shares}
use Rattle.worker_pool.proofs.crew.dismiss.Given as goal

abbrev pub invariant-loop-worker : goal.invariant-loop-worker
invariant-loop-worker g l =
    (l.seat.board ≡ l.fn.seat.board) × (l.seat.opened ≡ l.fn.seat.opened) × (l.seat.hand ≡ [])
    × (l.seat.share + shares l.crew.items ≡ l.fn.seat.share + shares l.fn.crew.items)
    × All (CanWork g.T.Part.ready g.B.Bound.bound l.board) l.crew.items

abbrev pub decreases-loop-worker : goal.decreases-loop-worker
decreases-loop-worker g l = vec_len l.crew
