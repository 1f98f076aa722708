use Rattle.std.proofs.Common.{ap}
use Rattle.dos_world.specs.Play.{done}
use Rattle.dos_world.specs.Services.{gone}
use Rattle.kernel_calls.proofs.threads.process_exit.Goals as goal

pub returns-clause-goes_on : goal.returns-clause-goes_on
returns-clause-goes_on c = λ q o e. ap (λ w. done (gone w)) (c.end_process.ensures.ends q o e)
