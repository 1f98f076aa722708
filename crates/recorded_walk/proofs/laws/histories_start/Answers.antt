use Rattle.recorded_walk.proofs.Ending.{starts}
use Rattle.recorded_walk.proofs.laws.histories_start.Goals as goal

pub returns : goal.returns
returns c = starts c.runs_are_their_moves.ensures
