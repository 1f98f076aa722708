use Rattle.flat_machine.specs.Effect.{effect}
use Rattle.rv_form.specs.Forms.{instr_of}
use Rattle.rv_form.specs.declared.form.Op.TheVariants as op
use Rattle.rv_exec.proofs.ByOp.{performs_short}
use Rattle.rv_exec.proofs.short_perform.short_access_by_form.Goals as goal

pub returns-in-ShortLw : goal.returns-in-ShortLw
unfolding instr_of effect
returns-in-ShortLw g c = λ pc.
    performs_short c.args.form.now op.ShortLw c.in-ShortLw.is pc c.args.regs.now
    c.load.new.regs c.load.result c.behind_short.result c.load.new.why
    c.behind_short.ensures g.M.Memory.answers
    (g.M.Memory.shows c.args.memory.now)
    (g.M.Memory.shows c.load.new.memory) (c.load.ensures 2 pc)

pub returns-in-ShortSw : goal.returns-in-ShortSw
unfolding instr_of effect
returns-in-ShortSw g c = λ pc.
    performs_short c.args.form.now op.ShortSw c.in-ShortSw.is pc c.args.regs.now
    c.args.regs.now c.store.result c.behind_short-in-ShortSw.result c.store.new.why
    c.behind_short-in-ShortSw.ensures g.M.Memory.answers
    (g.M.Memory.shows c.args.memory.now)
    (g.M.Memory.shows c.store.new.memory) (c.store.ensures 2 pc)
