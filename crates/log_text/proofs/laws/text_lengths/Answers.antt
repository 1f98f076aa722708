use Rattle.log_text.proofs.LengthLaws.{text_length, header_length, signals_length, input_length}
use Rattle.log_text.proofs.laws.text_lengths.Goals as goal

pub returns-clause-whole : goal.returns-clause-whole
returns-clause-whole c = text_length

pub returns-clause-header : goal.returns-clause-header
returns-clause-header c = header_length

pub returns-clause-signals : goal.returns-clause-signals
returns-clause-signals c = signals_length

pub returns-clause-input : goal.returns-clause-input
returns-clause-input c = input_length
