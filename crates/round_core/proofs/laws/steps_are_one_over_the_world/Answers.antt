use Rattle.flat_machine.proofs.OverWorld.{step-in}
use Rattle.round_core.proofs.laws.steps_are_one_over_the_world.Goals as goal

pub returns : goal.returns
returns c = step-in
