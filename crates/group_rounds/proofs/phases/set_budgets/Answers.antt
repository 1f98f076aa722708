use Rattle.std.proofs.Common.{ap, ◌∙◌, refl}
use Rattle.flat_machine.specs.Round.{with_budgets}
use Rattle.kernel_calls.specs.StateWorld.{sent, world_of}
use Rattle.group_rounds.proofs.PhaseLaws.{budget_next, budget_sound, budget_parts, budget_live}
use Rattle.group_rounds.proofs.PhaseLaws.{drop_out}
use Rattle.group_rounds.proofs.phases.set_budgets.Goals as goal

pub loop-tid-preserved : goal.loop-tid-preserved
loop-tid-preserved c = record {
  sets = λ o e. c.loop-tid.invariant.sets o e
      ∙ budget_next c.loop-tid.state c.set_budget.new.self c.args.quantum _ c.set_budget.ensures
      c.args.starters.now c.loop-tid.tid-index c.loop-tid-test.true refl o e;
  sound = budget_sound c.loop-tid.state c.set_budget.new.self c.args.quantum _ c.set_budget.ensures
      c.loop-tid.invariant.sound;
  parts = λ ts parts.
      budget_parts c.loop-tid.state c.set_budget.new.self c.args.quantum _ c.set_budget.ensures
      c.loop-tid.invariant.sound ts (c.loop-tid.invariant.parts ts parts);
  round = record {
    round = c.loop-tid.invariant.round.round;
    marked = c.loop-tid.invariant.round.marked;
  };
  count = c.loop-tid.invariant.count;
  live = budget_live c.loop-tid.state c.set_budget.new.self c.args.quantum _ c.set_budget.ensures
      c.args.starters.now c.loop-tid.invariant.live;
}

pub returns-clause-sets : goal.returns-clause-sets
returns-clause-sets c = λ o e. c.loop-tid.invariant.sets o e
    ∙ ap (with_budgets (sent o e (world_of c.args.quantum c.loop-tid.state)))
    (drop_out c.args.starters.now c.loop-tid.tid-index c.loop-tid-test.false)
