use Rattle.dos_world.proofs.Refusals.{only_these}
use Rattle.dos_world.proofs.laws.only_these_are_refused.Goals as goal

pub returns : goal.returns
returns c = only_these
