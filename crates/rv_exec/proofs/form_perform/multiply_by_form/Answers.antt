use Rattle.flat_machine.specs.Effect.{effect}
use Rattle.rv_form.specs.Forms.{instr_of}
use Rattle.rv_form.specs.declared.form.Op.TheVariants as op
use Rattle.rv_exec.proofs.ByOp.{settles}
use Rattle.rv_exec.proofs.form_perform.multiply_by_form.Goals as goal

pub returns-in-Mul : goal.returns-in-Mul
unfolding instr_of effect
returns-in-Mul c = λ pc why.
    settles c.args.form.now op.Mul c.in-Mul.is pc c.args.regs.now c.register.new.regs
    c.register.result why (c.register.ensures 4 pc why)

pub returns-in-Mulh : goal.returns-in-Mulh
unfolding instr_of effect
returns-in-Mulh c = λ pc why.
    settles c.args.form.now op.Mulh c.in-Mulh.is pc c.args.regs.now c.register-in-Mulh.new.regs
    c.register-in-Mulh.result why (c.register-in-Mulh.ensures 4 pc why)

pub returns-in-Mulhsu : goal.returns-in-Mulhsu
unfolding instr_of effect
returns-in-Mulhsu c = λ pc why.
    settles c.args.form.now op.Mulhsu c.in-Mulhsu.is pc c.args.regs.now
    c.register-in-Mulhsu.new.regs c.register-in-Mulhsu.result why (c.register-in-Mulhsu.ensures 4 pc
    why)

pub returns-in-Mulhu : goal.returns-in-Mulhu
unfolding instr_of effect
returns-in-Mulhu c = λ pc why.
    settles c.args.form.now op.Mulhu c.in-Mulhu.is pc c.args.regs.now c.register-in-Mulhu.new.regs
    c.register-in-Mulhu.result why (c.register-in-Mulhu.ensures 4 pc why)

pub returns-in-Div : goal.returns-in-Div
unfolding instr_of effect
returns-in-Div c = λ pc why.
    settles c.args.form.now op.Div c.in-Div.is pc c.args.regs.now c.register-in-Div.new.regs
    c.register-in-Div.result why (c.register-in-Div.ensures 4 pc why)

pub returns-in-Divu : goal.returns-in-Divu
unfolding instr_of effect
returns-in-Divu c = λ pc why.
    settles c.args.form.now op.Divu c.in-Divu.is pc c.args.regs.now c.register-in-Divu.new.regs
    c.register-in-Divu.result why (c.register-in-Divu.ensures 4 pc why)

pub returns-in-Rem : goal.returns-in-Rem
unfolding instr_of effect
returns-in-Rem c = λ pc why.
    settles c.args.form.now op.Rem c.in-Rem.is pc c.args.regs.now c.register-in-Rem.new.regs
    c.register-in-Rem.result why (c.register-in-Rem.ensures 4 pc why)

pub returns-in-Remu : goal.returns-in-Remu
unfolding instr_of effect
returns-in-Remu c = λ pc why.
    settles c.args.form.now op.Remu c.in-Remu.is pc c.args.regs.now c.register-in-Remu.new.regs
    c.register-in-Remu.result why (c.register-in-Remu.ensures 4 pc why)
