use Rattle.worker_pool.proofs.Belows.{takes}
use Rattle.worker_pool.proofs.deques.pop_own.Goals as goal

pub pop_as-requires-clause-fifo : goal.pop_as-requires-clause-fifo
pop_as-requires-clause-fifo g c = λ _. takes g.B.Bound.bound _ _ 1
