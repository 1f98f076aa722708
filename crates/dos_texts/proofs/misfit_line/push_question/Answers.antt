use Rattle.dos_texts.proofs.Questions.{signals_text, input_text, clock_text}
use Rattle.dos_texts.proofs.misfit_line.push_question.Goals as goal

pub returns-in-Signals-clause-bytes : goal.returns-in-Signals-clause-bytes
returns-in-Signals-clause-bytes c = signals_text c.args.line.now.bytes _ c.args.question
    c.in-Signals.round c.in-Signals.is c.push_number.ensures.bytes

pub returns-in-Input-clause-bytes : goal.returns-in-Input-clause-bytes
returns-in-Input-clause-bytes c = input_text c.args.line.now.bytes
    c.push_number-in-Input.new.line.bytes c.push_number-in-Input-2.new.line.bytes _ c.args.question
    c.in-Input.round c.in-Input.tid c.in-Input.max c.in-Input.is
    c.push_number-in-Input.ensures.bytes c.push_number-in-Input-2.ensures.bytes
    c.push_number-in-Input-3.ensures.bytes

pub returns-in-Clock-clause-bytes : goal.returns-in-Clock-clause-bytes
returns-in-Clock-clause-bytes c = clock_text c.args.line.now.bytes
    c.push_number-in-Clock.new.line.bytes _ c.args.question
    c.in-Clock.round c.in-Clock.tid c.in-Clock.is
    c.push_number-in-Clock.ensures.bytes c.push_number-in-Clock-2.ensures.bytes
