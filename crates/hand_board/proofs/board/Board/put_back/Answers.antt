use Rattle.std.proofs.Common.{arith}
use Rattle.hand_board.proofs.board.Board.put_back.Goals as goal

-- a pack that lies under way isn't said to be finished
pub lay-requires-clause-pack : goal.lay-requires-clause-pack
lay-requires-clause-pack g c x at =
    ((λ two. absurd (omega arith)), (λ three. c.requires.under_way x at))
