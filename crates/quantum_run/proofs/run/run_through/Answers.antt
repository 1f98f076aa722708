use Rattle.std.proofs.Common.{sym, subst}
use Rattle.page_store.specs.Store.{Store}
use Rattle.quantum_run.specs.ThreadRuns.{AreMapped}
use Rattle.quantum_run.proofs.run.run_through.Goals as goal

pub run_known-stop-requires-clause-mapped : goal.run_known-stop-requires-clause-mapped
run_known-stop-requires-clause-mapped c =
    subst (λ (s : Store). AreMapped s c.args.space.now.entries) (sym c.take_known.ensures.same)
    c.requires.mapped

pub run_known-requires-clause-mapped : goal.run_known-requires-clause-mapped
run_known-requires-clause-mapped c =
    subst (λ (s : Store). AreMapped s c.args.space.now.entries) (sym c.take_known.ensures.same)
    c.requires.mapped
