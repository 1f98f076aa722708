use Rattle.std.proofs.Common.{ap, ◌∙◌, Ok}
use Rattle.group_walk.proofs.Stopping.{meaningless_there, needing_there, not_fetched_there}
use Rattle.group_walk.proofs.stops.why_stops.Goals as goal

pub returns-in-Err : goal.returns-in-Err
returns-in-Err c = not_fetched_there c.args.state.now c.args.tid c.args.is_granted c.requires.sound
    c.requires.live c.regs-regs.result.now c.pc.result c.regs-regs.ensures c.pc.ensures
    c.in-Err.reason c.in-Err.ensures.is

pub returns-in-Ok-None : goal.returns-in-Ok-None
returns-in-Ok-None c = meaningless_there c.args.state.now c.args.tid c.args.is_granted
    c.requires.sound c.requires.live c.regs-regs.result.now c.pc.result c.regs-regs.ensures
    c.pc.ensures (λ q o e. c.in-Ok-None.ensures.is q o e ∙ ap Ok c.in-Ok-None.field-0-is)

pub returns-in-Ok-Some : goal.returns-in-Ok-Some
returns-in-Ok-Some c = needing_there c.args.state.now c.args.tid c.args.is_granted
    c.requires.sound c.requires.live c.regs-regs.result.now c.pc.result c.regs-regs.ensures
    c.pc.ensures c.in-Ok-Some.instr c.need_of.result c.why_unmet.result
    (λ q o e. c.in-Ok-Some.ensures.is q o e ∙ ap Ok c.in-Ok-Some.field-0-is)
    c.need_of.ensures c.why_unmet.ensures
