use Rattle.flat_machine.proofs.Commute.{steps-commute}
use Rattle.round_core.proofs.laws.steps_commute.Goals as goal

pub returns : goal.returns
returns c = λ w w1 w2 s t other one two. let b = steps-commute w w1 w2 s t other one two in
    (b.last, b.second, b.first)
