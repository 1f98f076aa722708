use Rattle.std.proofs.Common.{sym, subst}
use Rattle.hand_board.specs.Placed.{IsUnderWay}
use Rattle.quantum_run.specs.Packs.{seen_in}
use Rattle.quantum_run.specs.Shows.{Pack}
use Rattle.worker_pool.proofs.SliceRuns.{begun-run}
use Rattle.staying_workers.specs.Lending.{IsHeldFinished, MayRunHeld, IsHeldRunOut}
use Rattle.staying_workers.specs.declared.held.Held.{Held}
use Rattle.staying_workers.proofs.held.HeldTask.begin.Goals as goal

pub returns : goal.returns
returns c =
    let held : Held = c.args.self.now in
    let v = seen_in held.shared.value in
    subst (λ (p : Pack). IsUnderWay MayRunHeld IsHeldRunOut IsHeldFinished held
    (record held { pack = p }))
    (sym c.begin.ensures)
    (c.requires, λ z out. (out.0, begun-run v held.pack z.pack out.1))
