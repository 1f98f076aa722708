use Rattle.std.proofs.Common.{ap, ◌∙◌}
use Rattle.clap.specs.Words.{is_simple, is_simple_and_free}
use Rattle.dos_words.proofs.Taking.{simple, simple_and_free, takes_none, taken_by}
use Rattle.dos_words.proofs.read.taken.Goals as goal

pub returns-in-Err : goal.returns-in-Err
returns-in-Err c = λ app.
    takes_none c.refusal_of.result c.in-Err.e _ _ app
    (c.in-Err.ensures.kinds (ap is_simple_and_free app ∙ simple_and_free)) c.refusal_of.ensures

pub returns-in-Ok : goal.returns-in-Ok
returns-in-Ok c = λ app.
    taken_by _ _ _ app (c.in-Ok.ensures.kinds (ap is_simple_and_free app ∙ simple_and_free))
    (c.in-Ok.ensures.matches (ap is_simple app ∙ simple)).1
