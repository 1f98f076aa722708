use Rattle.dos_laws.proofs.LawfulRounds.{lawful-part}
use Rattle.dos_laws.proofs.laws.parts_keep.Goals as goal

pub returns : goal.returns
returns c = lawful-part
