use Rattle.group_moves.proofs.Leading.{leads}
use Rattle.group_moves.proofs.Rests.{rests_led}
use Rattle.group_moves.proofs.laws.rests_are_the_serial_phase.Goals as goal

pub returns : goal.returns
returns c = λ limit begun made starters ts w answers.
    leads limit answers _ begun _ (rests_led limit begun starters ts w answers made)
