use Rattle.std.proofs.Common.{subst, suc, ◌+◌, ◌≡◌, arith}
use Rattle.group_moves.specs.Laws.{HasLeft}
use Rattle.group_moves.proofs.Budgets.{step_costs}
use Rattle.group_moves.proofs.laws.instructions_cost_one.Goals as goal

pub returns : goal.returns
returns c = λ w next t left is has.
    step_costs w next t left is
    (subst (HasLeft w t) (let e : left + 1 ≡ suc left = omega arith in e) has)
