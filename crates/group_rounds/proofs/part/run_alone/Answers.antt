use Rattle.std.proofs.Common.{arith}
use Rattle.group_rounds.proofs.ThreadRunLaws.{budget_is}
use Rattle.group_rounds.proofs.TurnLaws.{alone_runs}
use Rattle.group_rounds.proofs.part.run_alone.Goals as goal

pub returns-clause-runs : goal.returns-clause-runs
returns-clause-runs c =
    alone_runs c.args.state.now c.begin.new.state c.run-stop.new.state c.args.tid c.run-stop.result
    c.begin.ensures.empties c.begin.ensures.budget c.run-stop.ensures.ran

pub returns-clause-paid : goal.returns-clause-paid
returns-clause-paid c =
    let before = budget_is c.args.state.now c.args.tid c.requires.sound c.requires.live
    c.budget-budget.result c.budget-budget.ensures in
    let after = budget_is c.run-stop.new.state c.args.tid c.run-stop.ensures.sound
    c.run-stop.ensures.live c.budget.result c.budget.ensures in
    let begun = c.begin.ensures.budget in
    let paid = c.run-stop.ensures.ran.paid in
    omega (arith, before, after, begun, paid)
