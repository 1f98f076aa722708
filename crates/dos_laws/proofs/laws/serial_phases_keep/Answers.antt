use Rattle.dos_laws.proofs.LawfulRounds.{lawful-serial}
use Rattle.dos_laws.proofs.laws.serial_phases_keep.Goals as goal

pub returns : goal.returns
returns c = lawful-serial
