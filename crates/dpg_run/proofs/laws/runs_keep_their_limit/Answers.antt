use Rattle.dpg_run.proofs.Limits.{machine_within}
use Rattle.dpg_run.proofs.laws.runs_keep_their_limit.Goals as goal

pub returns : goal.returns
returns c = machine_within
