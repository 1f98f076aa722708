use Rattle.crossbeam_deque.specs.Handles.{IsPassOf, stealer_deque}
use Rattle.worker_pool.proofs.deques.steal_one.Given as goal

abbrev pub invariant-loop : goal.invariant-loop
invariant-loop g l = IsPassOf (stealer_deque l.thief) l.pass
