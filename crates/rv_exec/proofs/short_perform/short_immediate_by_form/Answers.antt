use Rattle.flat_machine.specs.Effect.{effect}
use Rattle.rv_form.specs.Forms.{instr_of}
use Rattle.rv_form.specs.declared.form.Op.TheVariants as op
use Rattle.rv_exec.proofs.ByOp.{settles_short}
use Rattle.rv_exec.proofs.short_perform.short_immediate_by_form.Goals as goal

pub returns-in-ShortLui : goal.returns-in-ShortLui
unfolding instr_of effect
returns-in-ShortLui c = λ pc why.
    settles_short c.args.form.now op.ShortLui c.in-ShortLui.is pc c.args.regs.now
    c.lui.new.regs c.lui.result
    c.behind_short.result why c.behind_short.ensures
    (c.lui.ensures 2 pc why)

pub returns-in-ShortAddi : goal.returns-in-ShortAddi
unfolding instr_of effect
returns-in-ShortAddi c = λ pc why.
    settles_short c.args.form.now op.ShortAddi c.in-ShortAddi.is pc c.args.regs.now
    c.immediate.new.regs c.immediate.result
    c.behind_short-in-ShortAddi.result why c.behind_short-in-ShortAddi.ensures
    (c.immediate.ensures 2 pc why)

pub returns-in-ShortAndi : goal.returns-in-ShortAndi
unfolding instr_of effect
returns-in-ShortAndi c = λ pc why.
    settles_short c.args.form.now op.ShortAndi c.in-ShortAndi.is pc c.args.regs.now
    c.immediate-in-ShortAndi.new.regs c.immediate-in-ShortAndi.result
    c.behind_short-in-ShortAndi.result why c.behind_short-in-ShortAndi.ensures
    (c.immediate-in-ShortAndi.ensures 2 pc why)

pub returns-in-ShortSlli : goal.returns-in-ShortSlli
unfolding instr_of effect
returns-in-ShortSlli c = λ pc why.
    settles_short c.args.form.now op.ShortSlli c.in-ShortSlli.is pc c.args.regs.now
    c.shift.new.regs c.shift.result
    c.behind_short-in-ShortSlli.result why c.behind_short-in-ShortSlli.ensures
    (c.shift.ensures 2 pc why)

pub returns-in-ShortSrli : goal.returns-in-ShortSrli
unfolding instr_of effect
returns-in-ShortSrli c = λ pc why.
    settles_short c.args.form.now op.ShortSrli c.in-ShortSrli.is pc c.args.regs.now
    c.shift-in-ShortSrli.new.regs c.shift-in-ShortSrli.result
    c.behind_short-in-ShortSrli.result why c.behind_short-in-ShortSrli.ensures
    (c.shift-in-ShortSrli.ensures 2 pc why)

pub returns-in-ShortSrai : goal.returns-in-ShortSrai
unfolding instr_of effect
returns-in-ShortSrai c = λ pc why.
    settles_short c.args.form.now op.ShortSrai c.in-ShortSrai.is pc c.args.regs.now
    c.shift-in-ShortSrai.new.regs c.shift-in-ShortSrai.result
    c.behind_short-in-ShortSrai.result why c.behind_short-in-ShortSrai.ensures
    (c.shift-in-ShortSrai.ensures 2 pc why)
