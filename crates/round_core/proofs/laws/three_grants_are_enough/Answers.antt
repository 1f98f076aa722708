use Rattle.round_core.proofs.Grants.{three-are-enough}
use Rattle.round_core.proofs.laws.three_grants_are_enough.Goals as goal

pub returns : goal.returns
returns c = three-are-enough
