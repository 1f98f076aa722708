use Rattle.dos_world.proofs.PlayLaws.{over-then}
use Rattle.dos_world.proofs.laws.one_then_another.Goals as goal

pub returns : goal.returns
returns c start = over-then
