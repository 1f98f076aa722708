use Rattle.dpg_run.proofs.LawfulRuns.{run_ends_lawful}
use Rattle.dpg_run.proofs.laws.runs_end_lawful.Goals as goal

pub returns : goal.returns
returns c = run_ends_lawful
