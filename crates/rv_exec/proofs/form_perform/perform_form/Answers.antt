use Rattle.std.proofs.Common.{refl}
use Rattle.flat_machine.specs.Effect.{effect}
use Rattle.rv_form.specs.Forms.{instr_of}
use Rattle.rv_form.specs.declared.form.Op.TheVariants as op
use Rattle.rv_exec.proofs.ByOp.{performed, settled}
use Rattle.rv_exec.proofs.form_perform.perform_form.Goals as goal

pub returns-in-Lui : goal.returns-in-Lui
unfolding instr_of effect
returns-in-Lui g c =
    settled c.args.form.now op.Lui c.in-Lui.is c.args.pc c.args.regs.now c.lui.new.regs c.lui.result
    c.args.why.now g.M.Memory.answers (g.M.Memory.shows c.args.memory.now)
    (c.lui.ensures 4 c.args.pc c.args.why.now)

pub returns-in-Auipc : goal.returns-in-Auipc
unfolding instr_of effect
returns-in-Auipc g c =
    settled c.args.form.now op.Auipc c.in-Auipc.is c.args.pc c.args.regs.now c.auipc.new.regs
    c.auipc.result c.args.why.now g.M.Memory.answers (g.M.Memory.shows c.args.memory.now)
    (c.auipc.ensures 4 c.args.why.now)

pub returns-in-Jal : goal.returns-in-Jal
unfolding instr_of effect
returns-in-Jal g c =
    settled c.args.form.now op.Jal c.in-Jal.is c.args.pc c.args.regs.now c.jal.new.regs c.jal.result
    c.jal.new.why g.M.Memory.answers (g.M.Memory.shows c.args.memory.now) c.jal.ensures

pub returns-in-Jalr : goal.returns-in-Jalr
unfolding instr_of effect
returns-in-Jalr g c =
    settled c.args.form.now op.Jalr c.in-Jalr.is c.args.pc c.args.regs.now c.jalr.new.regs
    c.jalr.result c.jalr.new.why g.M.Memory.answers (g.M.Memory.shows c.args.memory.now)
    c.jalr.ensures

pub returns-in-Beq : goal.returns-in-Beq
unfolding instr_of effect
returns-in-Beq g c =
    settled c.args.form.now op.Beq c.in-Beq.is c.args.pc c.args.regs.now c.args.regs.now
    c.branch-regs.result c.branch-regs.new.why g.M.Memory.answers
    (g.M.Memory.shows c.args.memory.now) (c.branch-regs.ensures 4)

pub returns-in-Bne : goal.returns-in-Bne
unfolding instr_of effect
returns-in-Bne g c =
    settled c.args.form.now op.Bne c.in-Bne.is c.args.pc c.args.regs.now c.args.regs.now
    c.branch-regs-in-Bne.result c.branch-regs-in-Bne.new.why g.M.Memory.answers
    (g.M.Memory.shows c.args.memory.now) (c.branch-regs-in-Bne.ensures 4)

pub returns-in-Blt : goal.returns-in-Blt
unfolding instr_of effect
returns-in-Blt g c =
    settled c.args.form.now op.Blt c.in-Blt.is c.args.pc c.args.regs.now c.args.regs.now
    c.branch-regs-in-Blt.result c.branch-regs-in-Blt.new.why g.M.Memory.answers
    (g.M.Memory.shows c.args.memory.now) (c.branch-regs-in-Blt.ensures 4)

pub returns-in-Bge : goal.returns-in-Bge
unfolding instr_of effect
returns-in-Bge g c =
    settled c.args.form.now op.Bge c.in-Bge.is c.args.pc c.args.regs.now c.args.regs.now
    c.branch-regs-in-Bge.result c.branch-regs-in-Bge.new.why g.M.Memory.answers
    (g.M.Memory.shows c.args.memory.now) (c.branch-regs-in-Bge.ensures 4)

pub returns-in-Bltu : goal.returns-in-Bltu
unfolding instr_of effect
returns-in-Bltu g c =
    settled c.args.form.now op.Bltu c.in-Bltu.is c.args.pc c.args.regs.now c.args.regs.now
    c.branch-regs-in-Bltu.result c.branch-regs-in-Bltu.new.why g.M.Memory.answers
    (g.M.Memory.shows c.args.memory.now) (c.branch-regs-in-Bltu.ensures 4)

pub returns-in-Bgeu : goal.returns-in-Bgeu
unfolding instr_of effect
returns-in-Bgeu g c =
    settled c.args.form.now op.Bgeu c.in-Bgeu.is c.args.pc c.args.regs.now c.args.regs.now
    c.branch-regs-in-Bgeu.result c.branch-regs-in-Bgeu.new.why g.M.Memory.answers
    (g.M.Memory.shows c.args.memory.now) (c.branch-regs-in-Bgeu.ensures 4)

pub returns-in-Lb : goal.returns-in-Lb
returns-in-Lb g c = c.access_by_form.ensures c.args.pc

pub returns-in-Addi : goal.returns-in-Addi
returns-in-Addi g c =
    settled c.args.form.now c.args.form.now.op refl c.args.pc c.args.regs.now
    c.immediate_by_form.new.regs c.immediate_by_form.result c.args.why.now g.M.Memory.answers
    (g.M.Memory.shows c.args.memory.now) (c.immediate_by_form.ensures c.args.pc c.args.why.now)

pub returns-in-Add : goal.returns-in-Add
returns-in-Add g c =
    settled c.args.form.now c.args.form.now.op refl c.args.pc c.args.regs.now
    c.register_by_form.new.regs c.register_by_form.result c.args.why.now g.M.Memory.answers
    (g.M.Memory.shows c.args.memory.now) (c.register_by_form.ensures c.args.pc c.args.why.now)

pub returns-in-Mul : goal.returns-in-Mul
returns-in-Mul g c =
    settled c.args.form.now c.args.form.now.op refl c.args.pc c.args.regs.now
    c.multiply_by_form.new.regs c.multiply_by_form.result c.args.why.now g.M.Memory.answers
    (g.M.Memory.shows c.args.memory.now) (c.multiply_by_form.ensures c.args.pc c.args.why.now)

pub returns-in-LrW : goal.returns-in-LrW
unfolding instr_of effect
returns-in-LrW g c =
    performed c.args.form.now op.LrW c.in-LrW.is c.args.pc c.args.regs.now c.atomic.new.regs
    c.atomic.result c.atomic.new.why g.M.Memory.answers (g.M.Memory.shows c.args.memory.now)
    (g.M.Memory.shows
    c.atomic.new.memory) (c.atomic.ensures c.args.pc)

pub returns-in-ScW : goal.returns-in-ScW
unfolding instr_of effect
returns-in-ScW g c =
    performed c.args.form.now op.ScW c.in-ScW.is c.args.pc c.args.regs.now c.atomic-in-ScW.new.regs
    c.atomic-in-ScW.result c.atomic-in-ScW.new.why g.M.Memory.answers (g.M.Memory.shows
    c.args.memory.now)
    (g.M.Memory.shows c.atomic-in-ScW.new.memory) (c.atomic-in-ScW.ensures c.args.pc)

pub returns-in-AmoswapW : goal.returns-in-AmoswapW
returns-in-AmoswapW g c = c.amo_by_form.ensures c.args.pc

pub returns-in-ShortJal : goal.returns-in-ShortJal
returns-in-ShortJal g c =
    settled c.args.form.now c.args.form.now.op refl c.args.pc c.args.regs.now
    c.short_jump_by_form.new.regs c.short_jump_by_form.result c.short_jump_by_form.new.why
    g.M.Memory.answers (g.M.Memory.shows c.args.memory.now) c.short_jump_by_form.ensures

pub returns-in-ShortLw : goal.returns-in-ShortLw
returns-in-ShortLw g c = c.short_access_by_form.ensures c.args.pc

pub returns-in-ShortLui : goal.returns-in-ShortLui
returns-in-ShortLui g c =
    settled c.args.form.now c.args.form.now.op refl c.args.pc c.args.regs.now
    c.short_immediate_by_form.new.regs c.short_immediate_by_form.result c.args.why.now
    g.M.Memory.answers (g.M.Memory.shows c.args.memory.now)
    (c.short_immediate_by_form.ensures c.args.pc c.args.why.now)

pub returns-in-ShortAdd : goal.returns-in-ShortAdd
returns-in-ShortAdd g c =
    settled c.args.form.now c.args.form.now.op refl c.args.pc c.args.regs.now
    c.short_register_by_form.new.regs c.short_register_by_form.result c.args.why.now
    g.M.Memory.answers (g.M.Memory.shows c.args.memory.now)
    (c.short_register_by_form.ensures c.args.pc c.args.why.now)
