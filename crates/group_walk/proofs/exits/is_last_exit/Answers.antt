use Rattle.std.proofs.Common.{sym, ap, ◌∙◌, Some}
use Rattle.std.proofs.lemmas.Bool.{eqb-true}
use Rattle.group_walk.proofs.Deserting.{leaves_by_exit, leaves_by_fault}
use Rattle.group_walk.proofs.exits.is_last_exit.Goals as goal

pub returns-in-Some-Fault : goal.returns-in-Some-Fault
returns-in-Some-Fault c ends =
    leaves_by_fault c.args.state.now c.args.tid c.requires.sound c.requires.live
    (sym c.live_processes.ensures ∙ c.if-live_processes-ne1.false) c.in-Some-Fault.field-0-0
    (λ q o e. c.why_stops.ensures q o e ∙ c.in-Some-Fault.is ∙ ap Some c.in-Some-Fault.field-0-is)

pub returns-in-Some-Service : goal.returns-in-Some-Service
returns-in-Some-Service c ends =
    leaves_by_exit c.args.state.now c.args.tid c.requires.sound c.requires.live
    (sym c.live_processes.ensures ∙ c.if-live_processes-ne1.false) c.regs.result.now
    c.regs.ensures (sym c.get.ensures ∙ eqb-true c.get.result 2 ends)
    (λ q o e. c.why_stops.ensures q o e ∙ c.in-Some-Service.is
    ∙ ap Some c.in-Some-Service.field-0-is)
