use Rattle.flat_machine.specs.Effect.{effect}
use Rattle.rv_form.specs.Forms.{instr_of}
use Rattle.rv_form.specs.declared.form.Op.TheVariants as op
use Rattle.rv_exec.proofs.ByOp.{settles}
use Rattle.rv_exec.proofs.form_perform.register_by_form.Goals as goal

pub returns-in-Add : goal.returns-in-Add
unfolding instr_of effect
returns-in-Add c = λ pc why.
    settles c.args.form.now op.Add c.in-Add.is pc c.args.regs.now c.register.new.regs
    c.register.result why (c.register.ensures 4 pc why)

pub returns-in-Sub : goal.returns-in-Sub
unfolding instr_of effect
returns-in-Sub c = λ pc why.
    settles c.args.form.now op.Sub c.in-Sub.is pc c.args.regs.now c.register-in-Sub.new.regs
    c.register-in-Sub.result why (c.register-in-Sub.ensures 4 pc why)

pub returns-in-Sll : goal.returns-in-Sll
unfolding instr_of effect
returns-in-Sll c = λ pc why.
    settles c.args.form.now op.Sll c.in-Sll.is pc c.args.regs.now c.register-in-Sll.new.regs
    c.register-in-Sll.result why (c.register-in-Sll.ensures 4 pc why)

pub returns-in-Slt : goal.returns-in-Slt
unfolding instr_of effect
returns-in-Slt c = λ pc why.
    settles c.args.form.now op.Slt c.in-Slt.is pc c.args.regs.now c.register-in-Slt.new.regs
    c.register-in-Slt.result why (c.register-in-Slt.ensures 4 pc why)

pub returns-in-Sltu : goal.returns-in-Sltu
unfolding instr_of effect
returns-in-Sltu c = λ pc why.
    settles c.args.form.now op.Sltu c.in-Sltu.is pc c.args.regs.now c.register-in-Sltu.new.regs
    c.register-in-Sltu.result why (c.register-in-Sltu.ensures 4 pc why)

pub returns-in-Xor : goal.returns-in-Xor
unfolding instr_of effect
returns-in-Xor c = λ pc why.
    settles c.args.form.now op.Xor c.in-Xor.is pc c.args.regs.now c.register-in-Xor.new.regs
    c.register-in-Xor.result why (c.register-in-Xor.ensures 4 pc why)

pub returns-in-Srl : goal.returns-in-Srl
unfolding instr_of effect
returns-in-Srl c = λ pc why.
    settles c.args.form.now op.Srl c.in-Srl.is pc c.args.regs.now c.register-in-Srl.new.regs
    c.register-in-Srl.result why (c.register-in-Srl.ensures 4 pc why)

pub returns-in-Sra : goal.returns-in-Sra
unfolding instr_of effect
returns-in-Sra c = λ pc why.
    settles c.args.form.now op.Sra c.in-Sra.is pc c.args.regs.now c.register-in-Sra.new.regs
    c.register-in-Sra.result why (c.register-in-Sra.ensures 4 pc why)

pub returns-in-Or : goal.returns-in-Or
unfolding instr_of effect
returns-in-Or c = λ pc why.
    settles c.args.form.now op.Or c.in-Or.is pc c.args.regs.now c.register-in-Or.new.regs
    c.register-in-Or.result why (c.register-in-Or.ensures 4 pc why)

pub returns-in-And : goal.returns-in-And
unfolding instr_of effect
returns-in-And c = λ pc why.
    settles c.args.form.now op.And c.in-And.is pc c.args.regs.now c.register-in-And.new.regs
    c.register-in-And.result why (c.register-in-And.ensures 4 pc why)
