use Rattle.flat_machine.proofs.Keeps.{step-keeps}
use Rattle.round_core.proofs.laws.steps_keep.Goals as goal

pub returns : goal.returns
returns c = step-keeps
