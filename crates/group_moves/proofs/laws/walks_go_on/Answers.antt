use Rattle.group_moves.proofs.Runs.{walks_on}
use Rattle.group_moves.proofs.laws.walks_go_on.Goals as goal

pub returns : goal.returns
returns c = walks_on
