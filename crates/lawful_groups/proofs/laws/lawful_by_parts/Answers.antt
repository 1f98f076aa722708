use Rattle.lawful_groups.proofs.LawfulLaws.{lawful_by_parts, parts_by_law}
use Rattle.lawful_groups.proofs.laws.lawful_by_parts.Goals as goal

pub returns : goal.returns
returns c = λ g fits. (parts_by_law g, lawful_by_parts g fits)
