use Rattle.group_text.proofs.GroupLaws.{groups_are_spelled}
use Rattle.group_text.proofs.laws.groups_are_spelled.Goals as goal

pub returns : goal.returns
returns c = groups_are_spelled
