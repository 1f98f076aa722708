use Rattle.logged_runs.proofs.Joined.{replays_join}
use Rattle.logged_runs.proofs.laws.replays_join.Goals as goal

pub returns : goal.returns
returns c = replays_join
