use Rattle.worker_pool.proofs.RanPacks.{runnable-in, ran-in}
use Rattle.worker_pool.proofs.ways.run_by.Goals as goal

pub run_in_place-requires-clause-can : goal.run_in_place-requires-clause-can
run_in_place-requires-clause-can g c = runnable-in _ _ _ c.view-view.ensures c.requires.can

pub run_spread-requires-clause-can : goal.run_spread-requires-clause-can
run_spread-requires-clause-can g c κs within = runnable-in _ _ _ c.view-view.ensures c.requires.can

pub run_shared-requires-clause-can : goal.run_shared-requires-clause-can
run_shared-requires-clause-can g c κs within = runnable-in _ _ _ c.view-view.ensures c.requires.can

pub run_shared-requires-in-Stealing-clause-can : goal.run_shared-requires-in-Stealing-clause-can
run_shared-requires-in-Stealing-clause-can g c κs within =
    runnable-in _ _ _ c.view-view.ensures c.requires.can

pub returns-in-InPlace-clause-runs : goal.returns-in-InPlace-clause-runs
returns-in-InPlace-clause-runs g c =
    ran-in _ _ _ _ c.view-view.ensures c.run_in_place.ensures.number c.run_in_place.ensures.each

pub returns-in-Spread-clause-runs : goal.returns-in-Spread-clause-runs
returns-in-Spread-clause-runs g c =
    ran-in _ _ _ _ c.view-view.ensures c.run_spread.ensures.number c.run_spread.ensures.each

pub returns-in-Boarded-clause-runs : goal.returns-in-Boarded-clause-runs
returns-in-Boarded-clause-runs g c =
    ran-in _ _ _ _ c.view-view.ensures c.run_shared.ensures.number c.run_shared.ensures.each

pub returns-in-Stealing-clause-runs : goal.returns-in-Stealing-clause-runs
returns-in-Stealing-clause-runs g c =
    ran-in _ _ _ _ c.view-view.ensures c.run_shared-in-Stealing.ensures.number
    c.run_shared-in-Stealing.ensures.each
