use Rattle.dos_laws.proofs.LawfulRounds.{lawful-round}
use Rattle.dos_laws.proofs.laws.rounds_keep.Goals as goal

pub returns : goal.returns
returns c = lawful-round
