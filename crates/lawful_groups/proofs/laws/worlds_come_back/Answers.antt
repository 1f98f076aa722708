use Rattle.lawful_groups.proofs.Recorded.{worlds_come_back}
use Rattle.lawful_groups.proofs.laws.worlds_come_back.Goals as goal

pub returns : goal.returns
returns c = worlds_come_back
