use Rattle.std.proofs.Common.{◌≡◌, ◌+◌, ◌<◌, ◌^◌, [], true, All, sum_by, vec_len}
use Rattle.staying_workers.specs.Busy.{IsWorkerAt, share_out}
use Rattle.staying_workers.proofs.rounds.gather.Given as goal

abbrev pub invariant-loop-worker : goal.invariant-loop-worker
invariant-loop-worker g l =
    (l.seat.board ≡ l.fn.seat.board) × (l.seat.hand ≡ []) × (l.seat.ended ≡ true)
    × (l.seat.opened ≡ l.fn.seat.opened)
    × All (IsWorkerAt l.fn.lender.term l.fn.seat.board l.fn.seat.opened) l.busy.items
    × (l.seat.share + sum_by share_out l.busy.items
    ≡ l.fn.seat.share + sum_by share_out l.fn.busy.items)
    × (l.lender.value ≡ l.fn.lender.value) × (l.lender.term ≡ l.fn.lender.term)
    × (l.lender.out ≡ vec_len l.busy + 1) × (vec_len l.busy < 2 ^ 32)

abbrev pub decreases-loop-worker : goal.decreases-loop-worker
decreases-loop-worker g l = vec_len l.busy
