use Rattle.quantum_run.specs.Packs.{seen_by_view}
use Rattle.quantum_run.specs.Shows.{LeadsTo}
use Rattle.worker_pool.specs.Ran.{HasRunBy}
use Rattle.worker_pool.proofs.SliceRuns.{slice-can, slice-run}
use Rattle.worker_pool.proofs.lent.LentTask.go_on.Goals as goal

pub returns-clause-more : goal.returns-clause-more
returns-clause-more c = λ no.
    let before = c.args.self.now.pack in
    let now = c.run_slice.new.pack in
    let v = seen_by_view c.args.self.now.view.now in
    let ran = c.run_slice.ensures in
    let slice : HasRunBy LeadsTo v before now = record {
      finished = (ran.more no).0;
      thread = ran.thread;
      process = ran.process;
      frames = ran.frames;
      budget = ran.budget;
      room = ran.room;
    } in (
      slice-can v before now slice c.requires,
      λ z out. (out.0, slice-run v before now z.pack slice out.1),
    )
