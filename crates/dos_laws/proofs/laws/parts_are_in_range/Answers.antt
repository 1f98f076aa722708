use Rattle.dos_laws.proofs.StandsBuffered.{part-in}
use Rattle.dos_laws.proofs.laws.parts_are_in_range.Goals as goal

pub returns : goal.returns
returns c = part-in
