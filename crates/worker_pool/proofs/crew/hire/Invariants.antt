use Rattle.std.proofs.Common.{◌≡◌, ◌+◌, ◌-◌, ◌^◌, ◌≤◌, All, [], vec_len, vec_capacity}
use Rattle.std.specs.Vec.Iter.{into_iter_items}
use Rattle.worker_pool.specs.Crews.{CanWork, shares}
use Rattle.worker_pool.specs.Parts.{AreFifo}
use Rattle.worker_pool.proofs.crew.hire.Given as goal

abbrev pub invariant-loop-number : goal.invariant-loop-number
invariant-loop-number g l =
    (l.seat.board ≡ l.fn.seat.board) × (l.seat.opened ≡ l.fn.seat.opened) × (l.seat.hand ≡ [])
    × (2 ^ (l.workers - l.number) ≤ l.seat.share)
    × (l.seat.share + shares l.crew.items ≡ l.fn.seat.share)
    × All (CanWork g.T.Part.ready g.B.Bound.bound l.board) l.crew.items
    × (vec_len l.crew ≡ l.number)
    × (l.workers ≤ vec_capacity l.crew)
    × AreFifo (into_iter_items l.owners)
