use Rattle.dos_world.proofs.Table.{unknown-refused}
use Rattle.dos_world.proofs.laws.unknown_services_are_refused.Goals as goal

pub returns : goal.returns
returns c = unknown-refused
