use Rattle.group_moves.proofs.Leading.{leads}
use Rattle.group_moves.proofs.Parts.{parts_led}
use Rattle.group_moves.proofs.laws.parts_are_the_parallel_phase.Goals as goal

pub returns : goal.returns
returns c = λ limit begun made starters ts w answers.
    leads limit answers _ begun _ (parts_led limit begun starters ts w answers made)
