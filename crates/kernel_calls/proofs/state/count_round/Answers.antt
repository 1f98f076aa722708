use Rattle.kernel_calls.proofs.Keeping.{sound-counted}
use Rattle.kernel_calls.proofs.state.count_round.Goals as goal

pub returns-clause-sound : goal.returns-clause-sound
returns-clause-sound c = sound-counted c.args.state.now c.requires.limit c.requires.sound
