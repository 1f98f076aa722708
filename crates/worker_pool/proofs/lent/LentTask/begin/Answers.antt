use Rattle.std.proofs.Common.{sym, subst}
use Rattle.quantum_run.specs.Packs.{seen_by_view}
use Rattle.quantum_run.specs.Shows.{Pack}
use Rattle.hand_board.specs.Placed.{IsUnderWay}
use Rattle.worker_pool.specs.declared.lent.Lent.{Lent}
use Rattle.worker_pool.specs.Lending.{IsFinished, MayRunPack, IsRunOut}
use Rattle.quantum_run.proofs.Slices.{begun-can}
use Rattle.worker_pool.proofs.SliceRuns.{begun-run}
use Rattle.worker_pool.proofs.lent.LentTask.begin.Goals as goal

pub returns : goal.returns
returns c =
    let lent : Lent = c.args.self.now in
    let v = seen_by_view lent.view.now in
    subst (λ (p : Pack). IsUnderWay MayRunPack IsRunOut IsFinished lent (record lent { pack = p }))
    (sym c.begin.ensures)
    (begun-can lent.pack v c.requires, λ z out. (out.0, begun-run v lent.pack z.pack out.1))
