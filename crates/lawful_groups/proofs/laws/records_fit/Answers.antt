use Rattle.lawful_groups.proofs.Recorded.{records_fit}
use Rattle.lawful_groups.proofs.laws.records_fit.Goals as goal

pub returns : goal.returns
returns c = records_fit
