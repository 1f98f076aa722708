use Rattle.std.proofs.Common.{arith, ◌+◌}
use Rattle.std.proofs.lemmas.Result.{err_from_is_err_and}
use Rattle.group_text.proofs.RegisterLoop.{regs_begin, regs_go_on, regs_stop, regs_end, regs_shaped}
use Rattle.group_text.proofs.registers.read_numbers.Goals as goal

pub loop-index-init : goal.loop-index-init
loop-index-init c = rw c.new-regs.ensures (regs_begin c.args.pc c.args.end c.args.bytes.now)

pub returns-in_err-number-clause-numbers : goal.returns-in_err-number-clause-numbers
returns-in_err-number-clause-numbers c =
    let p = err_from_is_err_and c.from_residual.result c.from_residual.ensures.1 in
    rw (p.1, p.2)
    (regs_stop c.args.pc c.args.end c.args.bytes.now c.loop-index.index c.loop-index.regs
    c.loop-index.rest.now c.loop-index.invariant c.in_err-number.field-0.0
    (omega (arith, c.loop-index-test.true)) c.in_err-number.ensures)

pub loop-index-preserved : goal.loop-index-preserved
loop-index-preserved c =
    regs_go_on c.args.pc c.args.end c.args.bytes.now c.loop-index.index c.loop-index.regs
    c.loop-index.rest.now c.loop-index.invariant c.in_ok-number.number c.in_ok-number.after.now
    c.set.new.self (c.loop-index.index + 1) (omega arith) (omega (arith, c.loop-index-test.true))
    c.in_ok-number.ensures c.set.ensures

pub returns-clause-numbers : goal.returns-clause-numbers
returns-clause-numbers c =
    regs_end c.args.pc c.args.end c.args.bytes.now c.loop-index.index c.loop-index.regs
    c.loop-index.rest.now c.loop-index.invariant
    (omega (arith, c.loop-index-test.false, c.loop-index.invariant.all))

pub returns-clause-others : goal.returns-clause-others
returns-clause-others c =
    regs_shaped c.args.pc c.args.end c.args.bytes.now c.loop-index.index c.loop-index.regs
    c.loop-index.rest.now c.loop-index.invariant
    (omega (arith, c.loop-index-test.false, c.loop-index.invariant.all))
