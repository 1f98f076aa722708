use Rattle.twin_runs.proofs.Asking.{whole_runs}
use Rattle.twin_runs.proofs.laws.whole_runs_are_one.Goals as goal

pub returns : goal.returns
returns c = whole_runs
