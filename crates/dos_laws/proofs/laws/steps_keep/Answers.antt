use Rattle.dos_laws.proofs.LawfulRounds.{lawful-step}
use Rattle.dos_laws.proofs.laws.steps_keep.Goals as goal

pub returns : goal.returns
returns c = lawful-step
