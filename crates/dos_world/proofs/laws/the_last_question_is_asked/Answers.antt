use Rattle.dos_world.proofs.PlayLaws.{asks-last}
use Rattle.dos_world.proofs.laws.the_last_question_is_asked.Goals as goal

pub returns : goal.returns
returns c start = asks-last
