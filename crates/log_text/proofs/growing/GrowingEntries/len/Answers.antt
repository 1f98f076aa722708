use Rattle.log_text.proofs.GrowingLaws.{grown_few}
use Rattle.log_text.proofs.growing.GrowingEntries.len.Goals as goal

pub returns-clause-few : goal.returns-clause-few
returns-clause-few c = grown_few _ _ _ c.self.invariant.0
