use Rattle.std.proofs.Common.{[], ◌-◌, arith, ap}
use Rattle.kernel_calls.specs.declared.state.State.{State}
use Rattle.group_rounds.proofs.PhaseLaws.{budget_parts, budget_sound}
use Rattle.group_rounds.proofs.ThreadRunLaws.{budget_is, own_budget, seen}
use Rattle.group_walk.proofs.Stepping.{budget_lives, step-lives, steps_once}
use Rattle.group_walk.proofs.turns.step_once.Goals as goal

pub overflow_sub-budget : goal.overflow_sub-budget
overflow_sub-budget c =
    let is = budget_is c.args.state.now c.args.tid c.requires.sound c.requires.live
    c.budget-budget.result c.budget-budget.ensures in
    let some = c.requires.budget in
    omega (arith, is, some)

pub run-stop-requires-clause-sound : goal.run-stop-requires-clause-sound
run-stop-requires-clause-sound c =
    budget_sound c.args.state.now c.set_budget.new.self 1 c.args.tid c.set_budget.ensures
    c.requires.sound

pub run-stop-requires-clause-live : goal.run-stop-requires-clause-live
run-stop-requires-clause-live c =
    budget_lives c.args.state.now c.args.tid 1 c.set_budget.new.self c.set_budget.ensures
    c.args.tid c.requires.live

pub returns : goal.returns
returns c =
    let s : State = c.args.state.now in
    let t = c.args.tid in
    let b = c.budget-budget.result - 1 in
    let here = seen s t c.requires.sound c.requires.live in
    let left = ap (λ n. n - 1) (own_budget s t c.requires.sound c.requires.live
    c.budget-budget.result c.budget-budget.ensures) in
    let steps = steps_once s t b c.set_budget.new.self here.thread here.is left
    c.set_budget.ensures c.run-stop.new.state c.run-stop.result c.run-stop.ensures.ran
    c.set_budget-2.new.self c.set_budget-2.ensures c.requires.goes_on in
    record {
      steps = steps;
      sound = budget_sound c.run-stop.new.state c.set_budget-2.new.self b t c.set_budget-2.ensures
          c.run-stop.ensures.sound;
      parts = λ ts parts.
          budget_parts c.run-stop.new.state c.set_budget-2.new.self b t c.set_budget-2.ensures
          c.run-stop.ensures.sound ts
          (c.run-stop.ensures.parts ts
          (budget_parts s c.set_budget.new.self 1 t c.set_budget.ensures c.requires.sound ts
          parts));
      live = step-lives s (record c.run-stop.new.state { table = c.set_budget-2.new.self }) t
          (steps 0 [] []);
      round = c.run-stop.ensures.round.round;
      count = c.run-stop.ensures.count;
    }
