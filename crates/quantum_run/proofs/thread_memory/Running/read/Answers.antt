use Rattle.quantum_run.proofs.Places.{aligned-offset, aligned-within}
use Rattle.quantum_run.proofs.thread_memory.Running.read.Goals as goal

pub read-requires-clause-within : goal.read-requires-clause-within
read-requires-clause-within g c = aligned-within c.args.address c.args.size c.requires.aligned

pub read-requires-clause-aligned : goal.read-requires-clause-aligned
read-requires-clause-aligned g c = aligned-offset c.args.address c.args.size c.requires.aligned
