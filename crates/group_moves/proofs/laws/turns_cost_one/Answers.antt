use Rattle.std.proofs.Common.{subst, suc, ◌+◌, ◌≡◌, arith}
use Rattle.group_moves.specs.Laws.{HasLeft}
use Rattle.group_moves.proofs.Budgets.{turn_costs}
use Rattle.group_moves.proofs.laws.turns_cost_one.Goals as goal

pub returns : goal.returns
returns c = λ w next t left answers rest has given.
    turn_costs w next t left answers rest
    (subst (HasLeft w t) (let e : left + 1 ≡ suc left = omega arith in e) has) given
