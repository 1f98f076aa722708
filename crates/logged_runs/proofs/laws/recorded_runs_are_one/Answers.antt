use Rattle.logged_runs.proofs.OneRecording.{recorded_once}
use Rattle.logged_runs.proofs.laws.recorded_runs_are_one.Goals as goal

pub returns : goal.returns
returns c = recorded_once
