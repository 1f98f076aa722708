use Rattle.dos_io.proofs.QuietAnswers.{no_posts_more, last_is_memory}
use Rattle.dos_io.proofs.laws.quiet_shims_bring_no_signals.Goals as goal

pub returns-clause-posts : goal.returns-clause-posts
returns-clause-posts c = no_posts_more

pub returns-clause-last : goal.returns-clause-last
returns-clause-last c = last_is_memory
