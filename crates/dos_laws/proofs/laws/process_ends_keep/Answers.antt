use Rattle.dos_laws.proofs.EveryEnd.{lawful-process_ended}
use Rattle.dos_laws.proofs.laws.process_ends_keep.Goals as goal

pub returns : goal.returns
returns c = lawful-process_ended
