use Rattle.std.proofs.Common.{subst, sym, ◌∙◌}
use Rattle.quantum_run.specs.Packs.{seen_in}
use Rattle.quantum_run.specs.declared.pack.Shared.{Shared}
use Rattle.worker_pool.specs.Ran.{AllCanRun}
use Rattle.staying_workers.proofs.kept.run_beside.Goals as goal

pub run_alone-requires-clause-can : goal.run_alone-requires-clause-can
run_alone-requires-clause-can g c =
    subst (λ (s : Shared). AllCanRun (seen_in s) c.args.packs.now.items)
    (sym (c.get.ensures ∙ c.lend-lender.ensures.1)) c.requires.can
