use Rattle.std.proofs.Common.{sym, subst, arith}
use Rattle.std.specs.Prelude.{slice_index_or}
use Rattle.quantum_run.specs.Packs.{seen_by_view}
use Rattle.quantum_run.specs.Shows.{Pack, CanRun}
use Rattle.worker_pool.specs.Ran.{HasRun}
use Rattle.worker_pool.proofs.ways.run_evenly.Goals as goal

pub for_each_mut-requires-clause-accepts : goal.for_each_mut-requires-clause-accepts
for_each_mut-requires-clause-accepts g c κs within i p low is = (
  omega (arith, low, c.requires.count),
  subst (λ (x : Pack). CanRun x (seen_by_view c.args.view.now)) (sym is)
      (c.requires.can i p.now low),
)

pub returns-clause-each : goal.returns-clause-each
returns-clause-each g c i d low =
    let at = (c.for_each_mut.ensures i d low).1 in
    let v = seen_by_view c.args.view.now in
    let p : Pack = slice_index_or c.args.packs.now i d in
    let q : Pack = slice_index_or c.for_each_mut.new.s i d in
    subst (λ (x : Pack). HasRun v x q) {y = p} at.argument_is
    (subst (λ (x : Pack). HasRun v at.argument.now x) {y = q} at.left at.call)
