use Rattle.worker_pool.proofs.RanPacks.{runnable-in, ran-in}
use Rattle.staying_workers.proofs.kept.run_alone.Goals as goal

pub run_in_place-requires-clause-can : goal.run_in_place-requires-clause-can
run_in_place-requires-clause-can g c = runnable-in _ _ _ c.view.ensures c.requires.can

pub returns-clause-runs : goal.returns-clause-runs
returns-clause-runs g c =
    ran-in _ _ _ _ c.view.ensures c.run_in_place.ensures.number c.run_in_place.ensures.each
