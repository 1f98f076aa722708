use Rattle.dos_io.proofs.QuietAnswers.{follows_answer}
use Rattle.dos_io.proofs.quiet.QuietShim.end.Goals as goal

pub returns-clause-follows : goal.returns-clause-follows
returns-clause-follows c = follows_answer c.args.self.now c.keep.new.self _ c.in_ok-keep.ensures.ok
