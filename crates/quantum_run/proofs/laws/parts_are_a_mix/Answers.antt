use Rattle.quantum_run.proofs.Mix.{parts-are-a-mix}
use Rattle.quantum_run.proofs.laws.parts_are_a_mix.Goals as goal

pub returns : goal.returns
returns c = λ w f v packs lawful begun count shown. parts-are-a-mix w f v packs begun shown
