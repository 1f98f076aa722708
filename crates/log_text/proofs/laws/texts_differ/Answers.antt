use Rattle.log_text.proofs.LengthLaws.{one_log}
use Rattle.log_text.proofs.laws.texts_differ.Goals as goal

pub returns : goal.returns
returns c = one_log
