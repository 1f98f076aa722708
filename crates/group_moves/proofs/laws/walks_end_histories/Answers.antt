use Rattle.group_moves.proofs.Runs.{walk_ends}
use Rattle.group_moves.proofs.laws.walks_end_histories.Goals as goal

pub returns : goal.returns
returns c = walk_ends
