use Rattle.dpg_run.proofs.Joining.{runs_join}
use Rattle.dpg_run.proofs.laws.runs_join.Goals as goal

pub returns : goal.returns
returns c = runs_join
