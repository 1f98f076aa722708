use Rattle.group_walk.proofs.Walking.{walked_over}
use Rattle.group_walk.proofs.laws.walks_are_plays.Goals as goal

pub returns : goal.returns
returns c = walked_over
