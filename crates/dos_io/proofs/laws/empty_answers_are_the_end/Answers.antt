use Rattle.dos_io.proofs.InputLaws.{taken_filled, taken_end}
use Rattle.dos_io.proofs.laws.empty_answers_are_the_end.Goals as goal

pub returns-clause-filled : goal.returns-clause-filled
returns-clause-filled c = taken_filled

pub returns-clause-end : goal.returns-clause-end
returns-clause-end c = taken_end
