use Rattle.round_core.proofs.Grants.{three-are-enough}
use Rattle.dos_laws.proofs.Mapped.{entry_taken}
use Rattle.dos_laws.proofs.laws.no_page_is_left.Goals as goal

pub returns : goal.returns
returns c = λ w t l. three-are-enough w t (λ address e is. (entry_taken w t address e l is).within)
