use Rattle.dos_world.proofs.Refusals.{refused_calls}
use Rattle.dos_world.proofs.laws.refused_calls_change_registers_alone.Goals as goal

pub returns : goal.returns
returns c = refused_calls
