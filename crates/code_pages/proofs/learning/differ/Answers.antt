use Rattle.code_pages.proofs.Bytes.{same-more}
use Rattle.code_pages.proofs.learning.differ.Goals as goal

pub loop-at-preserved : goal.loop-at-preserved
loop-at-preserved c = λ none.
    same-more c.args.a.now c.args.b.now c.args.from c.loop-at.at c.loop-at.all none
    c.loop-at.invariant
