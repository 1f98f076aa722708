use Rattle.dos_world.proofs.LawfulTest.{lawful_by}
use Rattle.lawful_groups.proofs.LawfulPasses.{lawful_passes}
use Rattle.lawful_groups.proofs.laws.lawful_worlds_pass.Goals as goal

pub returns : goal.returns
returns c = λ w. (lawful_by w, lawful_passes w)
