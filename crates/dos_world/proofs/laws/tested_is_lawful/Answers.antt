use Rattle.dos_world.proofs.LawfulTest.{lawful_by}
use Rattle.dos_world.proofs.laws.tested_is_lawful.Goals as goal

pub returns : goal.returns
returns c = lawful_by
