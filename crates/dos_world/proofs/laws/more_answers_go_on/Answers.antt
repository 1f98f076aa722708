use Rattle.dos_world.proofs.PlayLaws.{over-append}
use Rattle.dos_world.proofs.laws.more_answers_go_on.Goals as goal

pub returns : goal.returns
returns c start = over-append
