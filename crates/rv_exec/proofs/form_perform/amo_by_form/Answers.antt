use Rattle.flat_machine.specs.Effect.{effect}
use Rattle.rv_form.specs.Forms.{instr_of}
use Rattle.rv_form.specs.declared.form.Op.TheVariants as op
use Rattle.rv_exec.proofs.ByOp.{performed}
use Rattle.rv_exec.proofs.form_perform.amo_by_form.Goals as goal

pub returns-in-AmoswapW : goal.returns-in-AmoswapW
unfolding instr_of effect
returns-in-AmoswapW g c = λ pc.
    performed c.args.form.now op.AmoswapW c.in-AmoswapW.is pc c.args.regs.now
    c.atomic.new.regs c.atomic.result c.atomic.new.why
    g.M.Memory.answers (g.M.Memory.shows c.args.memory.now) (g.M.Memory.shows c.atomic.new.memory)
    (c.atomic.ensures pc)

pub returns-in-AmoaddW : goal.returns-in-AmoaddW
unfolding instr_of effect
returns-in-AmoaddW g c = λ pc.
    performed c.args.form.now op.AmoaddW c.in-AmoaddW.is pc c.args.regs.now
    c.atomic-in-AmoaddW.new.regs c.atomic-in-AmoaddW.result c.atomic-in-AmoaddW.new.why
    g.M.Memory.answers (g.M.Memory.shows c.args.memory.now) (g.M.Memory.shows
    c.atomic-in-AmoaddW.new.memory)
    (c.atomic-in-AmoaddW.ensures pc)

pub returns-in-AmoxorW : goal.returns-in-AmoxorW
unfolding instr_of effect
returns-in-AmoxorW g c = λ pc.
    performed c.args.form.now op.AmoxorW c.in-AmoxorW.is pc c.args.regs.now
    c.atomic-in-AmoxorW.new.regs c.atomic-in-AmoxorW.result c.atomic-in-AmoxorW.new.why
    g.M.Memory.answers (g.M.Memory.shows c.args.memory.now) (g.M.Memory.shows
    c.atomic-in-AmoxorW.new.memory)
    (c.atomic-in-AmoxorW.ensures pc)

pub returns-in-AmoandW : goal.returns-in-AmoandW
unfolding instr_of effect
returns-in-AmoandW g c = λ pc.
    performed c.args.form.now op.AmoandW c.in-AmoandW.is pc c.args.regs.now
    c.atomic-in-AmoandW.new.regs c.atomic-in-AmoandW.result c.atomic-in-AmoandW.new.why
    g.M.Memory.answers (g.M.Memory.shows c.args.memory.now) (g.M.Memory.shows
    c.atomic-in-AmoandW.new.memory)
    (c.atomic-in-AmoandW.ensures pc)

pub returns-in-AmoorW : goal.returns-in-AmoorW
unfolding instr_of effect
returns-in-AmoorW g c = λ pc.
    performed c.args.form.now op.AmoorW c.in-AmoorW.is pc c.args.regs.now
    c.atomic-in-AmoorW.new.regs c.atomic-in-AmoorW.result c.atomic-in-AmoorW.new.why
    g.M.Memory.answers (g.M.Memory.shows c.args.memory.now) (g.M.Memory.shows
    c.atomic-in-AmoorW.new.memory)
    (c.atomic-in-AmoorW.ensures pc)

pub returns-in-AmominW : goal.returns-in-AmominW
unfolding instr_of effect
returns-in-AmominW g c = λ pc.
    performed c.args.form.now op.AmominW c.in-AmominW.is pc c.args.regs.now
    c.atomic-in-AmominW.new.regs c.atomic-in-AmominW.result c.atomic-in-AmominW.new.why
    g.M.Memory.answers (g.M.Memory.shows c.args.memory.now) (g.M.Memory.shows
    c.atomic-in-AmominW.new.memory)
    (c.atomic-in-AmominW.ensures pc)

pub returns-in-AmomaxW : goal.returns-in-AmomaxW
unfolding instr_of effect
returns-in-AmomaxW g c = λ pc.
    performed c.args.form.now op.AmomaxW c.in-AmomaxW.is pc c.args.regs.now
    c.atomic-in-AmomaxW.new.regs c.atomic-in-AmomaxW.result c.atomic-in-AmomaxW.new.why
    g.M.Memory.answers (g.M.Memory.shows c.args.memory.now) (g.M.Memory.shows
    c.atomic-in-AmomaxW.new.memory)
    (c.atomic-in-AmomaxW.ensures pc)

pub returns-in-AmominuW : goal.returns-in-AmominuW
unfolding instr_of effect
returns-in-AmominuW g c = λ pc.
    performed c.args.form.now op.AmominuW c.in-AmominuW.is pc c.args.regs.now
    c.atomic-in-AmominuW.new.regs c.atomic-in-AmominuW.result c.atomic-in-AmominuW.new.why
    g.M.Memory.answers (g.M.Memory.shows c.args.memory.now) (g.M.Memory.shows
    c.atomic-in-AmominuW.new.memory)
    (c.atomic-in-AmominuW.ensures pc)

pub returns-in-AmomaxuW : goal.returns-in-AmomaxuW
unfolding instr_of effect
returns-in-AmomaxuW g c = λ pc.
    performed c.args.form.now op.AmomaxuW c.in-AmomaxuW.is pc c.args.regs.now
    c.atomic-in-AmomaxuW.new.regs c.atomic-in-AmomaxuW.result c.atomic-in-AmomaxuW.new.why
    g.M.Memory.answers (g.M.Memory.shows c.args.memory.now) (g.M.Memory.shows
    c.atomic-in-AmomaxuW.new.memory)
    (c.atomic-in-AmomaxuW.ensures pc)
