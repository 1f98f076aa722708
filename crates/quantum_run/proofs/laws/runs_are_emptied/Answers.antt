use Rattle.quantum_run.proofs.Parts.{emptied-run}
use Rattle.quantum_run.proofs.laws.runs_are_emptied.Goals as goal

pub returns : goal.returns
returns c = emptied-run
