use Rattle.std.proofs.Common.{sym, ◌∙◌}
use Rattle.kernel_calls.specs.StateWorld.{sent, world_of}
use Rattle.group_rounds.proofs.ThreadRunLaws.{budget_is}
use Rattle.group_walk.proofs.Turned.{part_goes_on, part_over_spent, part_over_stopped}
use Rattle.group_walk.proofs.passing.is_part_over.Goals as goal

pub returns-then-budget-eq0 : goal.returns-then-budget-eq0
returns-then-budget-eq0 c = λ q o e.
    part_over_spent (sent o e (world_of q c.args.state.now)) c.args.tid
    (sym (budget_is c.args.state.now c.args.tid c.requires.sound c.requires.live c.budget.result
    c.budget.ensures) ∙ c.if-budget-eq0.true)

pub returns-in-Some : goal.returns-in-Some
returns-in-Some c = λ q o e.
    part_over_stopped (sent o e (world_of q c.args.state.now)) c.args.tid c.in-Some.field-0
    (c.why_stops.ensures q o e ∙ c.in-Some.is)

pub returns-in-None : goal.returns-in-None
returns-in-None c = λ q o e.
    part_goes_on (sent o e (world_of q c.args.state.now)) c.args.tid
    (λ none. c.if-budget-eq0.false (budget_is c.args.state.now c.args.tid c.requires.sound
    c.requires.live c.budget.result c.budget.ensures ∙ none))
    (c.why_stops.ensures q o e ∙ c.in-None.is)
