use Rattle.worker_pool.proofs.Belows.{takes}
use Rattle.worker_pool.proofs.deques.steal_one.Goals as goal

pub steal_as-requires-clause-takes : goal.steal_as-requires-clause-takes
steal_as-requires-clause-takes g c = takes g.B.Bound.bound _ _ 1
