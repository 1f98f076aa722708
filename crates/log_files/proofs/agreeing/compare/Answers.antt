use Rattle.std.proofs.Common.{◌∙◌, ◌+◌, sym, arith}
use Rattle.log_files.proofs.Comparing.{goes_on, differs}
use Rattle.log_files.proofs.agreeing.compare.Goals as goal

pub returns-then-ne : goal.returns-then-ne
returns-then-ne c = c.loop-i.invariant
    ∙ differs (c.loop-i.i + 1) c.loop-i.i c.args.given.now c.args.logged.now c.at-digest.result
    c.at-kept.result c.at-digest.ensures c.at-kept.ensures (sym c.ne.ensures ∙ c.if-ne.true)

pub loop-i-preserved : goal.loop-i-preserved
loop-i-preserved c = c.loop-i.invariant
    ∙ goes_on (c.loop-i.i + 1) (c.loop-i.i + 1 + 1) c.loop-i.i (c.loop-i.i + 1) c.args.given.now
    c.args.logged.now c.at-digest.result c.at-kept.result (omega arith) (omega arith)
    c.at-digest.ensures c.at-kept.ensures (sym c.ne.ensures ∙ c.if-ne.false)
