use Rattle.debug_connection.proofs.Pieces.{heard_alike}
use Rattle.debug_connection.proofs.laws.pieces_are_heard_alike.Goals as goal

pub returns : goal.returns
returns c = heard_alike
