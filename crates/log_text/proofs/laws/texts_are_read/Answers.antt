use Rattle.log_text.proofs.LogLaws.{log_again}
use Rattle.log_text.proofs.laws.texts_are_read.Goals as goal

pub returns : goal.returns
returns c = log_again
