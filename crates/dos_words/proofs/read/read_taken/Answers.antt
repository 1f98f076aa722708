use Rattle.dos_words.proofs.Taking.{reads_none}
use Rattle.dos_words.proofs.read.read_taken.Goals as goal

pub returns-in-Err : goal.returns-in-Err
returns-in-Err c = λ app. reads_none c.in-Err.error _ (c.in-Err.ensures app)

pub returns-in-Ok : goal.returns-in-Ok
returns-in-Ok c = λ app. rw (c.in-Ok.ensures app) c.read_found.ensures
