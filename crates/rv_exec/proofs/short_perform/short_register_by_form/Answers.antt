use Rattle.flat_machine.specs.Effect.{effect}
use Rattle.rv_form.specs.Forms.{instr_of}
use Rattle.rv_form.specs.declared.form.Op.TheVariants as op
use Rattle.rv_exec.proofs.ByOp.{settles_short}
use Rattle.rv_exec.proofs.short_perform.short_register_by_form.Goals as goal

pub returns-in-ShortAdd : goal.returns-in-ShortAdd
unfolding instr_of effect
returns-in-ShortAdd c = λ pc why.
    settles_short c.args.form.now op.ShortAdd c.in-ShortAdd.is pc c.args.regs.now
    c.register.new.regs c.register.result
    c.behind_short.result why c.behind_short.ensures
    (c.register.ensures 2 pc why)

pub returns-in-ShortSub : goal.returns-in-ShortSub
unfolding instr_of effect
returns-in-ShortSub c = λ pc why.
    settles_short c.args.form.now op.ShortSub c.in-ShortSub.is pc c.args.regs.now
    c.register-in-ShortSub.new.regs c.register-in-ShortSub.result
    c.behind_short-in-ShortSub.result why c.behind_short-in-ShortSub.ensures
    (c.register-in-ShortSub.ensures 2 pc why)

pub returns-in-ShortXor : goal.returns-in-ShortXor
unfolding instr_of effect
returns-in-ShortXor c = λ pc why.
    settles_short c.args.form.now op.ShortXor c.in-ShortXor.is pc c.args.regs.now
    c.register-in-ShortXor.new.regs c.register-in-ShortXor.result
    c.behind_short-in-ShortXor.result why c.behind_short-in-ShortXor.ensures
    (c.register-in-ShortXor.ensures 2 pc why)

pub returns-in-ShortOr : goal.returns-in-ShortOr
unfolding instr_of effect
returns-in-ShortOr c = λ pc why.
    settles_short c.args.form.now op.ShortOr c.in-ShortOr.is pc c.args.regs.now
    c.register-in-ShortOr.new.regs c.register-in-ShortOr.result
    c.behind_short-in-ShortOr.result why c.behind_short-in-ShortOr.ensures
    (c.register-in-ShortOr.ensures 2 pc why)

pub returns-in-ShortAnd : goal.returns-in-ShortAnd
unfolding instr_of effect
returns-in-ShortAnd c = λ pc why.
    settles_short c.args.form.now op.ShortAnd c.in-ShortAnd.is pc c.args.regs.now
    c.register-in-ShortAnd.new.regs c.register-in-ShortAnd.result
    c.behind_short-in-ShortAnd.result why c.behind_short-in-ShortAnd.ensures
    (c.register-in-ShortAnd.ensures 2 pc why)
