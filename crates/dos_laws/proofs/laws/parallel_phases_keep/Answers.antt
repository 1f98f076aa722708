use Rattle.dos_laws.proofs.LawfulRounds.{lawful-phase}
use Rattle.dos_laws.proofs.laws.parallel_phases_keep.Goals as goal

pub returns : goal.returns
returns c = lawful-phase
