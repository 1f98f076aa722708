use Rattle.std.proofs.Common.{rules}
use Rattle.quantum_run.specs.Packs.{seen_in}
use Rattle.worker_pool.proofs.RanPacks.{budgets-fall}
use Rattle.worker_pool.proofs.workers.Workers.run_all.Goals as goal

pub overflow_sub-before : goal.overflow_sub-before
overflow_sub-before g c =
    let fall = budgets-fall (seen_in c.args.shared) c.args.packs.now.items
    c.run_by-shared.new.packs.items c.run_by-shared.ensures.runs in
    search rules
