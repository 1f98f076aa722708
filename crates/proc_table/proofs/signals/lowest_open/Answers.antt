use Rattle.std.proofs.Common.{sym, ◌∙◌, arith}
use Rattle.proc_table.proofs.Lowest.{opens, lowest_is, lowest_none}
use Rattle.proc_table.proofs.signals.lowest_open.Goals as goal

pub returns-then-not-has : goal.returns-then-not-has
returns-then-not-has c = lowest_is c.args.pending c.args.mask c.loop-signal.signal (omega arith)
    (omega arith) c.loop-signal.invariant
    (opens c.args.pending c.args.mask c.loop-signal.signal (sym c.has.ensures ∙ c.if-has.true)
    (sym c.has-then-has.ensures ∙ c.if-not-has.true))

pub returns : goal.returns
returns c = lowest_none c.args.pending c.args.mask
    (λ k l h. c.loop-signal.invariant k l (omega arith))
