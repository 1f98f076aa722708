use Rattle.debug_connection.proofs.Pieces.{put_alike}
use Rattle.debug_connection.proofs.laws.pieces_are_put_alike.Goals as goal

pub returns : goal.returns
returns c = put_alike
