use Rattle.hand_board.proofs.Places.{in_one_place}
use Rattle.hand_board.proofs.laws.each_pack_is_in_one_place.Goals as goal

pub returns : goal.returns
returns g c = λ opened s holds. in_one_place _ _ opened s holds
