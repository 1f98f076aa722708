use Rattle.std.proofs.Common.{◌≡◌}
use Rattle.worker_pool.specs.Crews.{CanWork}
use Rattle.worker_pool.proofs.crew.seek.Given as goal

abbrev pub invariant-loop : goal.invariant-loop
invariant-loop g l =
    CanWork g.T.Part.ready g.B.Bound.bound l.shop.board.now l.worker
    × (l.worker.seat.share ≡ l.fn.worker.seat.share)
