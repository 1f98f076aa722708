use Rattle.dos_laws.proofs.LawfulRounds.{lawful-ripen}
use Rattle.dos_laws.proofs.laws.ripening_keeps.Goals as goal

pub returns : goal.returns
returns c = lawful-ripen
