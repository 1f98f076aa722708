use Rattle.std.proofs.Common.{ap, ◌∙◌, sym, Ok, option_map}
use Rattle.proc_table.specs.Tables.{IsLiveThread}
use Rattle.debug_hits.specs.Touching.{touch_named}
use Rattle.debug_hits.proofs.Granting.{each_so, meaningless_here, not_fetched_here, touching_here}
use Rattle.debug_hits.proofs.touches.touch_of.Goals as goal

pub returns-in-Err-clause-touches : goal.returns-in-Err-clause-touches
returns-in-Err-clause-touches c q o e =
    not_fetched_here c.args.state.now c.args.thread c.requires (sym c.if-not-is_thread.ensures)
    c.regs-regs.result.now c.pc.result c.regs-regs.ensures c.pc.ensures q o e c.in-Err.field-0
    (c.instruction_of.ensures.is q o e ∙ c.in-Err.is)

pub returns-in-Ok-None-clause-touches : goal.returns-in-Ok-None-clause-touches
returns-in-Ok-None-clause-touches c q o e =
    meaningless_here c.args.state.now c.args.thread c.requires (sym c.if-not-is_thread.ensures)
    c.regs-regs.result.now c.pc.result c.regs-regs.ensures c.pc.ensures q o e
    (c.instruction_of.ensures.is q o e ∙ c.in-Ok-None.is ∙ ap Ok c.in-Ok-None.field-0-is)

pub returns-in-Ok-Some-clause-touches : goal.returns-in-Ok-Some-clause-touches
returns-in-Ok-Some-clause-touches c q o e =
    touching_here c.args.state.now c.args.thread c.requires (sym c.if-not-is_thread.ensures)
    c.regs-regs.result.now c.pc.result c.regs-regs.ensures c.pc.ensures q o e c.in-Ok-Some.instr
    (option_map touch_named c.touch_by.result)
    (c.instruction_of.ensures.is q o e ∙ c.in-Ok-Some.is ∙ ap Ok c.in-Ok-Some.field-0-is)
    c.touch_by.ensures

pub returns-in-Ok-Some-clause-live : goal.returns-in-Ok-Some-clause-live
returns-in-Ok-Some-clause-live c =
    each_so c.touch_by.result (IsLiveThread c.args.state.now.table.threads c.args.thread)
    (sym c.if-not-is_thread.ensures)
