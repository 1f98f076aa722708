use Rattle.std.proofs.Common.{ap, ◌∙◌, Some}
use Rattle.kernel_calls.specs.StateWorld.{sent, world_of}
use Rattle.group_walk.proofs.Stopping.{all_within}
use Rattle.group_walk.proofs.Granted.{kind_faulted, kind_run, kind_served, kind_stopped}
use Rattle.group_walk.proofs.moving.serial_kind.Goals as goal

pub returns-in-None : goal.returns-in-None
returns-in-None c = λ q o e.
    kind_run (sent o e (world_of q c.args.state.now)) c.args.tid
    (all_within c.args.state.now c.args.tid c.requires.sound q o e)
    (c.why_stops.ensures q o e ∙ c.in-None.is)

pub returns-in-Some-Fault : goal.returns-in-Some-Fault
returns-in-Some-Fault c = λ q o e.
    kind_faulted (sent o e (world_of q c.args.state.now)) c.args.tid
    (all_within c.args.state.now c.args.tid c.requires.sound q o e) c.in-Some-Fault.number
    (c.why_stops.ensures q o e ∙ c.in-Some-Fault.is ∙ ap Some c.in-Some-Fault.field-0-is)

pub returns-in-Some-Page : goal.returns-in-Some-Page
returns-in-Some-Page c = λ q o e.
    kind_stopped (sent o e (world_of q c.args.state.now)) c.args.tid
    (all_within c.args.state.now c.args.tid c.requires.sound q o e) c.in-Some-Page.field-0-0
    c.in-Some-Page.field-0-1
    (c.why_stops.ensures q o e ∙ c.in-Some-Page.is ∙ ap Some c.in-Some-Page.field-0-is)

pub returns-in-Some-Service : goal.returns-in-Some-Service
returns-in-Some-Service c = λ q o e.
    kind_served (sent o e (world_of q c.args.state.now)) c.args.tid
    (all_within c.args.state.now c.args.tid c.requires.sound q o e)
    (c.why_stops.ensures q o e ∙ c.in-Some-Service.is ∙ ap Some c.in-Some-Service.field-0-is)
