use Rattle.flat_machine.specs.Effect.{effect}
use Rattle.rv_form.specs.Forms.{instr_of}
use Rattle.rv_form.specs.declared.form.Op.TheVariants as op
use Rattle.rv_exec.proofs.ByOp.{settles}
use Rattle.rv_exec.proofs.form_perform.immediate_by_form.Goals as goal

pub returns-in-Addi : goal.returns-in-Addi
unfolding instr_of effect
returns-in-Addi c = λ pc why.
    settles c.args.form.now op.Addi c.in-Addi.is pc c.args.regs.now c.immediate.new.regs
    c.immediate.result why (c.immediate.ensures 4 pc why)

pub returns-in-Slti : goal.returns-in-Slti
unfolding instr_of effect
returns-in-Slti c = λ pc why.
    settles c.args.form.now op.Slti c.in-Slti.is pc c.args.regs.now c.immediate-in-Slti.new.regs
    c.immediate-in-Slti.result why (c.immediate-in-Slti.ensures 4 pc why)

pub returns-in-Sltiu : goal.returns-in-Sltiu
unfolding instr_of effect
returns-in-Sltiu c = λ pc why.
    settles c.args.form.now op.Sltiu c.in-Sltiu.is pc c.args.regs.now c.immediate-in-Sltiu.new.regs
    c.immediate-in-Sltiu.result why (c.immediate-in-Sltiu.ensures 4 pc why)

pub returns-in-Xori : goal.returns-in-Xori
unfolding instr_of effect
returns-in-Xori c = λ pc why.
    settles c.args.form.now op.Xori c.in-Xori.is pc c.args.regs.now c.immediate-in-Xori.new.regs
    c.immediate-in-Xori.result why (c.immediate-in-Xori.ensures 4 pc why)

pub returns-in-Ori : goal.returns-in-Ori
unfolding instr_of effect
returns-in-Ori c = λ pc why.
    settles c.args.form.now op.Ori c.in-Ori.is pc c.args.regs.now c.immediate-in-Ori.new.regs
    c.immediate-in-Ori.result why (c.immediate-in-Ori.ensures 4 pc why)

pub returns-in-Andi : goal.returns-in-Andi
unfolding instr_of effect
returns-in-Andi c = λ pc why.
    settles c.args.form.now op.Andi c.in-Andi.is pc c.args.regs.now c.immediate-in-Andi.new.regs
    c.immediate-in-Andi.result why (c.immediate-in-Andi.ensures 4 pc why)

pub returns-in-Slli : goal.returns-in-Slli
unfolding instr_of effect
returns-in-Slli c = λ pc why.
    settles c.args.form.now op.Slli c.in-Slli.is pc c.args.regs.now c.shift.new.regs c.shift.result
    why (c.shift.ensures 4 pc why)

pub returns-in-Srli : goal.returns-in-Srli
unfolding instr_of effect
returns-in-Srli c = λ pc why.
    settles c.args.form.now op.Srli c.in-Srli.is pc c.args.regs.now c.shift-in-Srli.new.regs
    c.shift-in-Srli.result why (c.shift-in-Srli.ensures 4 pc why)

pub returns-in-Srai : goal.returns-in-Srai
unfolding instr_of effect
returns-in-Srai c = λ pc why.
    settles c.args.form.now op.Srai c.in-Srai.is pc c.args.regs.now c.shift-in-Srai.new.regs
    c.shift-in-Srai.result why (c.shift-in-Srai.ensures 4 pc why)
