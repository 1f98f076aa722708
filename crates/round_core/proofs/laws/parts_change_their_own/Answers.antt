use Rattle.flat_machine.proofs.Own.{alone-own}
use Rattle.round_core.proofs.laws.parts_change_their_own.Goals as goal

pub returns : goal.returns
returns c = alone-own
