use Rattle.group_moves.proofs.Settled.{passed_settled}
use Rattle.group_moves.proofs.laws.places_are_settled.Goals as goal

pub returns : goal.returns
returns c = passed_settled
