use Rattle.flat_machine.proofs.After.{steps-after}
use Rattle.round_core.proofs.laws.steps_go_on.Goals as goal

pub returns : goal.returns
returns c = λ n m w w' t h. steps-after n m w w' t h
