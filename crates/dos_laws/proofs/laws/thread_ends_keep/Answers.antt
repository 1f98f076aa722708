use Rattle.dos_laws.proofs.EveryEnd.{lawful-thread_ended}
use Rattle.dos_laws.proofs.laws.thread_ends_keep.Goals as goal

pub returns : goal.returns
returns c = lawful-thread_ended
