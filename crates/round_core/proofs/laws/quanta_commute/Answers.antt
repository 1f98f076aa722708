use Rattle.round_core.proofs.Commute.{quanta-commute}
use Rattle.round_core.proofs.laws.quanta_commute.Goals as goal

pub returns : goal.returns
returns c = λ w s lawful full. quanta-commute w s full
