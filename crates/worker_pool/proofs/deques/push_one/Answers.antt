use Rattle.worker_pool.proofs.Belows.{pushes-one}
use Rattle.worker_pool.proofs.deques.push_one.Goals as goal

pub push_as-requires-clause-pushes : goal.push_as-requires-clause-pushes
push_as-requires-clause-pushes g c = pushes-one g.B.Bound.bound _ _ _ c.requires.bound
