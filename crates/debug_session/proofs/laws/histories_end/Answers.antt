use Rattle.debug_session.proofs.Ends.{histories_end}
use Rattle.debug_session.proofs.laws.histories_end.Goals as goal

pub returns : goal.returns
returns c = histories_end c.runs_are_their_moves.ensures
