use Rattle.flat_machine.specs.Effect.{effect}
use Rattle.rv_form.specs.Forms.{instr_of}
use Rattle.rv_form.specs.declared.form.Op.TheVariants as op
use Rattle.rv_exec.proofs.ByOp.{performed}
use Rattle.rv_exec.proofs.form_perform.access_by_form.Goals as goal

pub returns-in-Lb : goal.returns-in-Lb
unfolding instr_of effect
returns-in-Lb g c = λ pc.
    performed c.args.form.now op.Lb c.in-Lb.is pc c.args.regs.now c.load.new.regs c.load.result
    c.load.new.why g.M.Memory.answers (g.M.Memory.shows c.args.memory.now)
    (g.M.Memory.shows c.load.new.memory) (c.load.ensures 4 pc)

pub returns-in-Lh : goal.returns-in-Lh
unfolding instr_of effect
returns-in-Lh g c = λ pc.
    performed c.args.form.now op.Lh c.in-Lh.is pc c.args.regs.now c.load-in-Lh.new.regs
    c.load-in-Lh.result c.load-in-Lh.new.why g.M.Memory.answers (g.M.Memory.shows c.args.memory.now)
    (g.M.Memory.shows c.load-in-Lh.new.memory) (c.load-in-Lh.ensures 4 pc)

pub returns-in-Lw : goal.returns-in-Lw
unfolding instr_of effect
returns-in-Lw g c = λ pc.
    performed c.args.form.now op.Lw c.in-Lw.is pc c.args.regs.now c.load-in-Lw.new.regs
    c.load-in-Lw.result c.load-in-Lw.new.why g.M.Memory.answers (g.M.Memory.shows c.args.memory.now)
    (g.M.Memory.shows c.load-in-Lw.new.memory) (c.load-in-Lw.ensures 4 pc)

pub returns-in-Lbu : goal.returns-in-Lbu
unfolding instr_of effect
returns-in-Lbu g c = λ pc.
    performed c.args.form.now op.Lbu c.in-Lbu.is pc c.args.regs.now c.load-in-Lbu.new.regs
    c.load-in-Lbu.result c.load-in-Lbu.new.why g.M.Memory.answers
    (g.M.Memory.shows c.args.memory.now) (g.M.Memory.shows c.load-in-Lbu.new.memory)
    (c.load-in-Lbu.ensures 4 pc)

pub returns-in-Lhu : goal.returns-in-Lhu
unfolding instr_of effect
returns-in-Lhu g c = λ pc.
    performed c.args.form.now op.Lhu c.in-Lhu.is pc c.args.regs.now c.load-in-Lhu.new.regs
    c.load-in-Lhu.result c.load-in-Lhu.new.why g.M.Memory.answers
    (g.M.Memory.shows c.args.memory.now) (g.M.Memory.shows c.load-in-Lhu.new.memory)
    (c.load-in-Lhu.ensures 4 pc)

pub returns-in-Sb : goal.returns-in-Sb
unfolding instr_of effect
returns-in-Sb g c = λ pc.
    performed c.args.form.now op.Sb c.in-Sb.is pc c.args.regs.now c.args.regs.now c.store.result
    c.store.new.why g.M.Memory.answers (g.M.Memory.shows c.args.memory.now)
    (g.M.Memory.shows c.store.new.memory) (c.store.ensures 4 pc)

pub returns-in-Sh : goal.returns-in-Sh
unfolding instr_of effect
returns-in-Sh g c = λ pc.
    performed c.args.form.now op.Sh c.in-Sh.is pc c.args.regs.now c.args.regs.now
    c.store-in-Sh.result c.store-in-Sh.new.why g.M.Memory.answers
    (g.M.Memory.shows c.args.memory.now)
    (g.M.Memory.shows c.store-in-Sh.new.memory) (c.store-in-Sh.ensures 4 pc)

pub returns-in-Sw : goal.returns-in-Sw
unfolding instr_of effect
returns-in-Sw g c = λ pc.
    performed c.args.form.now op.Sw c.in-Sw.is pc c.args.regs.now c.args.regs.now
    c.store-in-Sw.result c.store-in-Sw.new.why g.M.Memory.answers
    (g.M.Memory.shows c.args.memory.now)
    (g.M.Memory.shows c.store-in-Sw.new.memory) (c.store-in-Sw.ensures 4 pc)
