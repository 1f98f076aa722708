use Rattle.flat_machine.proofs.Stays.{stops-stay}
use Rattle.round_core.proofs.laws.stops_stay.Goals as goal

pub returns : goal.returns
returns c = stops-stay
