use Rattle.dpg_run.proofs.RunKeeps.{rounds_keep}
use Rattle.dpg_run.proofs.laws.run_invariants_are_kept.Goals as goal

pub returns : goal.returns
returns g c = rounds_keep _ _ _ c.requires
