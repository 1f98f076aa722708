use Rattle.log_text.proofs.LogLaws.{log_takes}
use Rattle.log_text.proofs.LengthLaws.{ranges_of_read}
use Rattle.log_text.proofs.laws.only_texts_are_read.Goals as goal

pub returns-clause-text : goal.returns-clause-text
returns-clause-text c = λ bytes log fits read. (log_takes bytes log fits read).text

pub returns-clause-ranges : goal.returns-clause-ranges
returns-clause-ranges c = ranges_of_read
