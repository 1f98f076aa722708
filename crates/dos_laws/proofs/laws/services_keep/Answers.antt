use Rattle.dos_laws.proofs.LawfulRounds.{lawful-served}
use Rattle.dos_laws.proofs.laws.services_keep.Goals as goal

pub returns : goal.returns
returns c = lawful-served
