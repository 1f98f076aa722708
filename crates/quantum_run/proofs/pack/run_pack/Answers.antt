use Rattle.std.proofs.Common.{subst}
use Rattle.quantum_run.specs.Packs.{seen_by_view}
use Rattle.quantum_run.specs.Shows.{Pack, RanOut}
use Rattle.quantum_run.proofs.Slices.{begun-runs}
use Rattle.quantum_run.proofs.pack.run_pack.Goals as goal

pub returns-clause-finished : goal.returns-clause-finished
returns-clause-finished c =
    let v = seen_by_view c.args.view.now in
    let after = c.run_out.new.pack in
    begun-runs c.args.pack.now v after
    (subst (λ (p : Pack). RanOut p v after) c.begin.ensures c.run_out.ensures.out)
