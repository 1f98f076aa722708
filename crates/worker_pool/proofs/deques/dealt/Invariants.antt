use Rattle.std.proofs.Common.{◌≡◌, ◌-◌}
use Rattle.crossbeam_deque.specs.Handles.{worker_flavor}
use Rattle.worker_pool.proofs.deques.dealt.Given as goal

abbrev pub invariant-loop-number : goal.invariant-loop-number
invariant-loop-number g l = worker_flavor l.owner ≡ 0

abbrev pub decreases-loop-number : goal.decreases-loop-number
decreases-loop-number g l = l.count - l.number
