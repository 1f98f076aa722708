use Rattle.dos_laws.proofs.LawfulRounds.{lawful-signalled}
use Rattle.dos_laws.proofs.laws.signal_points_keep.Goals as goal

pub returns : goal.returns
returns c = lawful-signalled
