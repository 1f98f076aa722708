use Rattle.flat_machine.proofs.Dependence.{steps-alike}
use Rattle.round_core.proofs.laws.steps_stay.Goals as goal

pub returns : goal.returns
returns c = λ t w u w' alike h. steps-alike t w u alike w' h
