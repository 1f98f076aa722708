use Rattle.dpg_run.proofs.QuietRuns.{quiet_once}
use Rattle.dpg_run.proofs.laws.quiet_runs_are_one.Goals as goal

pub returns : goal.returns
returns c = quiet_once
