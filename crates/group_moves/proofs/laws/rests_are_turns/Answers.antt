use Rattle.flat_machine.specs.Alone.{budget_of}
use Rattle.std.specs.Prelude.{refl}
use Rattle.group_moves.proofs.Leading.{leads}
use Rattle.group_moves.proofs.Rests.{rest_led}
use Rattle.group_moves.proofs.laws.rests_are_turns.Goals as goal

pub returns : goal.returns
returns c = λ limit begun made t starters ts w answers.
    leads limit answers _ begun _
    (rest_led limit begun starters (budget_of w t) t ts w answers made refl)
