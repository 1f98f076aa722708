use Rattle.flat_machine.specs.Effect.{effect}
use Rattle.rv_form.specs.Forms.{instr_of}
use Rattle.rv_form.specs.declared.form.Op.TheVariants as op
use Rattle.rv_exec.proofs.ByOp.{settles_short}
use Rattle.rv_exec.proofs.short_perform.short_jump_by_form.Goals as goal

pub returns-in-ShortJal : goal.returns-in-ShortJal
unfolding instr_of effect
returns-in-ShortJal c =
    settles_short c.args.form.now op.ShortJal c.in-ShortJal.is c.args.pc c.args.regs.now
    c.jal.new.regs c.jal.result c.behind_short.result
    c.jal.new.why c.behind_short.ensures c.jal.ensures

pub returns-in-ShortJalr : goal.returns-in-ShortJalr
unfolding instr_of effect
returns-in-ShortJalr c =
    settles_short c.args.form.now op.ShortJalr c.in-ShortJalr.is c.args.pc c.args.regs.now
    c.jalr.new.regs c.jalr.result c.behind_short-in-ShortJalr.result
    c.jalr.new.why c.behind_short-in-ShortJalr.ensures c.jalr.ensures

pub returns-in-ShortBeq : goal.returns-in-ShortBeq
unfolding instr_of effect
returns-in-ShortBeq c =
    settles_short c.args.form.now op.ShortBeq c.in-ShortBeq.is c.args.pc c.args.regs.now
    c.args.regs.now c.branch-regs.result c.behind_short-in-ShortBeq.result
    c.branch-regs.new.why c.behind_short-in-ShortBeq.ensures (c.branch-regs.ensures 2)

pub returns-in-ShortBne : goal.returns-in-ShortBne
unfolding instr_of effect
returns-in-ShortBne c =
    settles_short c.args.form.now op.ShortBne c.in-ShortBne.is c.args.pc c.args.regs.now
    c.args.regs.now c.branch-regs-in-ShortBne.result c.behind_short-in-ShortBne.result
    c.branch-regs-in-ShortBne.new.why c.behind_short-in-ShortBne.ensures
    (c.branch-regs-in-ShortBne.ensures 2)
