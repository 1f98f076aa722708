use Rattle.group_open.proofs.OpeningLaws.{every_opening}
use Rattle.group_open.proofs.laws.openings_are_lawful.Goals as goal

pub returns : goal.returns
returns c = every_opening
