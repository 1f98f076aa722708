use Rattle.logged_runs.proofs.OneRecording.{full_never_ends}
use Rattle.logged_runs.proofs.laws.full_runs_never_end.Goals as goal

pub returns : goal.returns
returns c = full_never_ends
