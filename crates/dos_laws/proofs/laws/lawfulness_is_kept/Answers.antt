use Rattle.dos_laws.proofs.StandsKeeps.{stands_kept}
use Rattle.dos_laws.proofs.laws.lawfulness_is_kept.Goals as goal

pub returns : goal.returns
returns c = stands_kept
