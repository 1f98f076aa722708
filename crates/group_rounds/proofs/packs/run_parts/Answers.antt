use Rattle.std.proofs.Common.{subst, sym}
use Rattle.page_store.specs.Store.{Store}
use Rattle.proc_table.specs.Tables.{Tables}
use Rattle.quantum_run.specs.Packs.{view_of}
use Rattle.worker_pool.specs.Ran.{AllCanRun}
use Rattle.worker_pool.proofs.Growing.{grew-counted}
use Rattle.group_rounds.proofs.packs.run_parts.Goals as goal

pub run_all-frames-requires-clause-can : goal.run_all-frames-requires-clause-can
run_all-frames-requires-clause-can g c κs within =
    subst (λ (f : Store). AllCanRun (view_of f c.replace-table.result) c.args.packs.now.items)
    (sym c.replace-frames.ensures.value)
    (subst
    (λ (t : Tables). AllCanRun (view_of c.args.state.now.frames t) c.args.packs.now.items)
    (sym c.replace-table.ensures.value) c.requires.can)

pub returns-clause-tally : goal.returns-clause-tally
returns-clause-tally g c =
    grew-counted (g.W.Workers.tally c.args.workers.now)
    (g.W.Workers.tally c.run_all-frames.new.self) _ c.run_all-frames.ensures.tally
