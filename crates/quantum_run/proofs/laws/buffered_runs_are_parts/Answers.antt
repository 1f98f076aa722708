use Rattle.quantum_run.proofs.Buffers.{run-part}
use Rattle.quantum_run.proofs.laws.buffered_runs_are_parts.Goals as goal

pub returns : goal.returns
returns c = run-part
