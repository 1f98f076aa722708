use Rattle.std.proofs.Common.{◌≡◌, ◌-◌, length}
use Rattle.board_bench.proofs.claim_all.Given as goal

abbrev pub invariant-loop-job : goal.invariant-loop-job
invariant-loop-job l = l.seat.board ≡ l.fn.seat.board

abbrev pub decreases-loop-job : goal.decreases-loop-job
decreases-loop-job l = length l.board.opened - l.seat.next
