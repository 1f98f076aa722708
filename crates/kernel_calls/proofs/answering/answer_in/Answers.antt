use Rattle.std.proofs.Common.{◌∙◌}
use Rattle.kernel_calls.proofs.Changed.{answer_set}
use Rattle.kernel_calls.proofs.answering.answer_in.Goals as goal

pub returns : goal.returns
returns c = c.set_regs.ensures
    ∙ answer_set c.args.table.now c.args.tid c.args.value c.regs.result.now c.set_pc.new.self
    c.regs.ensures (cc (c.set_pc.ensures, c.set.ensures, c.pc-next.ensures))
