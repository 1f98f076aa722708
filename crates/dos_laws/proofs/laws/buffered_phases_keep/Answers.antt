use Rattle.dos_laws.proofs.StandsBuffered.{stands-buffered}
use Rattle.dos_laws.proofs.laws.buffered_phases_keep.Goals as goal

pub returns : goal.returns
returns c = stands-buffered
