use Rattle.quantum_run.proofs.run.run_over.Goals as goal

pub run_beside-requires-clause-right : goal.run_beside-requires-clause-right
run_beside-requires-clause-right c = c.nothing-compared.ensures.right
