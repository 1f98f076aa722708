use Rattle.hand_board.proofs.Places.{apart}
use Rattle.hand_board.proofs.laws.hands_are_apart.Goals as goal

pub returns : goal.returns
returns g c = λ opened s holds. apart _ _ opened s holds
