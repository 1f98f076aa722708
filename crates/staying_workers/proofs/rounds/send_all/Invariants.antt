use Rattle.std.proofs.Common.{◌≡◌, ◌+◌, ◌≤◌, [], All, sum_by, vec_len, vec_capacity}
use Rattle.staying_workers.specs.Busy.{IsWorkerAt, share_out}
use Rattle.staying_workers.proofs.rounds.send_all.Given as goal

abbrev pub invariant-loop-sent : goal.invariant-loop-sent
invariant-loop-sent g l =
    (l.seat.board ≡ l.fn.seat.board) × (l.seat.opened ≡ l.fn.seat.opened) × (l.seat.hand ≡ [])
    × All (IsWorkerAt l.fn.lender.term l.fn.seat.board l.fn.seat.opened) l.busy.items
    × (l.seat.share + sum_by share_out l.busy.items ≡ l.fn.seat.share)
    × (vec_len l.busy ≡ l._sent)
    × (l.others ≤ vec_capacity l.busy)
    × (l.lender.value ≡ l.fn.lender.value) × (l.lender.term ≡ l.fn.lender.term)
    × (l.lender.out ≡ vec_len l.busy + 1)
