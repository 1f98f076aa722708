use Rattle.debug_connection.proofs.Pieces.{fronts_put}
use Rattle.debug_connection.proofs.laws.fronts_are_put.Goals as goal

pub returns : goal.returns
returns c = fronts_put
