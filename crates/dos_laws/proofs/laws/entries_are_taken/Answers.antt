use Rattle.dos_laws.proofs.Mapped.{entry_taken}
use Rattle.dos_laws.proofs.laws.entries_are_taken.Goals as goal

pub returns : goal.returns
returns c = entry_taken
