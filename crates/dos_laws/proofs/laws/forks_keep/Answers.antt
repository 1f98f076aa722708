use Rattle.dos_laws.proofs.Forks.{forks-keep}
use Rattle.dos_laws.proofs.laws.forks_keep.Goals as goal

pub returns : goal.returns
returns c = forks-keep
