use Rattle.std.proofs.Common.{subst, sym, ◌∙◌}
use Rattle.quantum_run.specs.Packs.{seen_in}
use Rattle.quantum_run.specs.declared.pack.Shared.{Shared}
use Rattle.worker_pool.specs.Ran.{AllCanRun}
use Rattle.staying_workers.proofs.kept.run_lent.Goals as goal

pub run_owned-lender-requires-clause-can : goal.run_owned-lender-requires-clause-can
run_owned-lender-requires-clause-can g c =
    λ κs κ. subst (λ (s : Shared). AllCanRun (seen_in s) c.args.packs.now.items)
    (sym (c.new-lender.ensures.0 ∙ c.in-Ok.ensures.ok)) c.requires.can

pub run_alone-requires-in-Err-clause-can : goal.run_alone-requires-in-Err-clause-can
run_alone-requires-in-Err-clause-can g c =
    subst (λ (s : Shared). AllCanRun (seen_in s) c.args.packs.now.items)
    (sym c.in-Err.ensures.value_returned) c.requires.can
