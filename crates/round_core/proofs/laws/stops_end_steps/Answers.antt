use Rattle.flat_machine.proofs.After.{steps-stopped}
use Rattle.round_core.proofs.laws.stops_end_steps.Goals as goal

pub returns : goal.returns
returns c = steps-stopped
