use Rattle.std.proofs.Common.{◌≡◌, All}
use Rattle.crossbeam_deque.specs.Handles.{worker_flavor}
use Rattle.worker_pool.proofs.deques.deques.Given as goal

abbrev pub invariant-loop-lane : goal.invariant-loop-lane
invariant-loop-lane g l = All (λ w. worker_flavor w ≡ 0) l.owners.items
