use Rattle.std.proofs.Common.{[], ◌+◌, ◌-◌, ◌<◌, ◌≤◌, ◌≡◌, arith}
use Rattle.kernel_calls.specs.declared.state.State.{State}
use Rattle.group_rounds.proofs.PhaseLaws.{budget_parts, budget_sound}
use Rattle.group_rounds.proofs.ThreadRunLaws.{budget_is, own_budget, seen}
use Rattle.group_walk.proofs.Freely.{budget-behind, part-paid, some_ran, steps-live, steps_so}
use Rattle.group_walk.proofs.Stepping.{budget_lives}
use Rattle.group_walk.proofs.turns.step_on.Goals as goal

pub run_until_address-stop-requires-clause-sound : goal.run_until_address-stop-requires-clause-sound
run_until_address-stop-requires-clause-sound c =
    budget_sound c.args.state.now c.set_budget.new.self c.min-part.result c.args.tid
    c.set_budget.ensures c.requires.sound

pub run_until_address-stop-requires-clause-live : goal.run_until_address-stop-requires-clause-live
run_until_address-stop-requires-clause-live c =
    budget_lives c.args.state.now c.args.tid c.min-part.result c.set_budget.new.self
    c.set_budget.ensures c.args.tid c.requires.live

pub overflow_sub-steps : goal.overflow_sub-steps
overflow_sub-steps c =
    let s : State = c.args.state.now in
    let here = seen s c.args.tid c.requires.sound c.requires.live in
    let paid = part-paid c.args.stops.now s c.args.tid c.budget-budget.result c.min-part.result
    c.set_budget.new.self here.thread here.is
    (own_budget s c.args.tid c.requires.sound c.requires.live c.budget-budget.result
    c.budget-budget.ensures) c.set_budget.ensures c.run_until_address-stop.new.state
    c.run_until_address-stop.result
    c.run_until_address-stop.ensures.ran in
    let left = budget_is c.run_until_address-stop.new.state c.args.tid
    c.run_until_address-stop.ensures.sound
    c.run_until_address-stop.ensures.live c.budget.result c.budget.ensures in
    omega (arith, paid, left)

pub returns : goal.returns
returns c =
    let s : State = c.args.state.now in
    let ran : State = c.run_until_address-stop.new.state in
    let t = c.args.tid in
    let b = c.budget-budget.result in
    let part = c.min-part.result in
    let count = part - c.budget.result in
    let here = seen s t c.requires.sound c.requires.live in
    let own = own_budget s t c.requires.sound c.requires.live b c.budget-budget.ensures in
    let has = budget_is s t c.requires.sound c.requires.live b c.budget-budget.ensures in
    let paid = part-paid c.args.stops.now s t b part c.set_budget.new.self here.thread here.is own
    c.set_budget.ensures ran c.run_until_address-stop.result c.run_until_address-stop.ensures.ran in
    let left = budget_is ran t c.run_until_address-stop.ensures.sound
    c.run_until_address-stop.ensures.live
    c.budget.result c.budget.ensures in
    let all : count ≡ c.run_until_address-stop.ensures.ran.count = omega (arith, paid, left) in
    let least = c.min-part.ensures in
    let within : part ≤ b = omega (arith, least) in
    let sum : b ≡ count + (b - count) = omega (arith, within) in
    let steps = steps_so c.args.stops.now s t b part c.set_budget.new.self here.thread here.is own
    c.set_budget.ensures ran c.run_until_address-stop.result c.run_until_address-stop.ensures.ran
    count (b - count)
    c.set_budget-2.new.self all sum c.set_budget-2.ensures in
    record {
      most = omega (arith, least);
      some = λ most some elsewhere goes_on.
          let any : 0 < part = omega (arith, least, most, some) in
          let ran_some = some_ran c.args.stops.now s t b part c.set_budget.new.self here.thread
          here.is own
          c.set_budget.ensures ran c.run_until_address-stop.result
          c.run_until_address-stop.ensures.ran any elsewhere goes_on in
          omega (arith, ran_some, all);
      paid =
          let after = budget-behind c.args.stops.now s t b part c.set_budget.new.self here.thread
          here.is own
          c.set_budget.ensures ran c.run_until_address-stop.result
          c.run_until_address-stop.ensures.ran count (b - count)
          c.set_budget-2.new.self all sum c.set_budget-2.ensures
          c.run_until_address-stop.ensures.live in
          omega (arith, has, sum, after);
      steps = steps;
      sound = budget_sound ran c.set_budget-2.new.self (b - count) t c.set_budget-2.ensures
          c.run_until_address-stop.ensures.sound;
      parts = λ ts parts.
          budget_parts ran c.set_budget-2.new.self (b - count) t c.set_budget-2.ensures
          c.run_until_address-stop.ensures.sound ts
          (c.run_until_address-stop.ensures.parts ts
          (budget_parts s c.set_budget.new.self part t c.set_budget.ensures c.requires.sound ts
          parts));
      live = steps-live c.args.stops.now [] count _ _ t (steps 0 [] []);
      round = c.run_until_address-stop.ensures.round.round;
      count = c.run_until_address-stop.ensures.count;
    }
