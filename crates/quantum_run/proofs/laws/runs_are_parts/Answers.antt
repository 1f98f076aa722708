use Rattle.quantum_run.proofs.Parts.{run-alone}
use Rattle.quantum_run.proofs.laws.runs_are_parts.Goals as goal

pub returns : goal.returns
returns c = run-alone
