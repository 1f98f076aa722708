use Rattle.group_moves.proofs.Runs.{run_ends}
use Rattle.group_moves.proofs.laws.runs_are_their_moves.Goals as goal

pub returns : goal.returns
returns c = run_ends
