use Rattle.std.specs.Prelude.{◌+◌}
use Rattle.group_moves.proofs.Leading.{leads}
use Rattle.group_moves.proofs.Rounds.{round_led}
use Rattle.group_moves.proofs.laws.rounds_are_their_moves.Goals as goal

pub returns : goal.returns
returns c = λ limit begun made w answers next.
    leads limit answers _ (begun + 1) _ (round_led limit begun made w answers next)
