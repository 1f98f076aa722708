use Rattle.std.proofs.Common.{ap, subst, sym, ◌∙◌}
use Rattle.quantum_run.specs.Packs.{seen_in}
use Rattle.quantum_run.specs.Shows.{CanRun, LeadsTo, View}
use Rattle.worker_pool.specs.Ran.{HasRunBy}
use Rattle.worker_pool.proofs.SliceRuns.{slice-can, slice-run}
use Rattle.staying_workers.proofs.Readying.{can_of, may_of}
use Rattle.staying_workers.proofs.held.HeldTask.go_on.Goals as goal

pub run_slice-requires : goal.run_slice-requires
run_slice-requires c = record {
  can = subst (λ (v : View). CanRun c.args.self.now.pack v)
      (sym (c.view.ensures ∙ ap seen_in c.get-shared.ensures))
      (can_of c.args.self.now.pack (seen_in c.args.self.now.shared.value) c.requires);
}

pub returns-clause-more : goal.returns-clause-more
returns-clause-more c = λ no.
    let before = c.args.self.now.pack in
    let now = c.run_slice.new.pack in
    let v = seen_in c.args.self.now.shared.value in
    let same = c.view.ensures ∙ ap seen_in c.get-shared.ensures in
    let ran = c.run_slice.ensures in
    let slice : HasRunBy LeadsTo v before now = record {
      finished = subst (λ (u : View). LeadsTo before u now) same (ran.more no).0;
      thread = ran.thread;
      process = ran.process;
      frames = ran.frames;
      budget = ran.budget;
      room = ran.room;
    } in (
      may_of now v (slice-can v before now slice (can_of before v c.requires)),
      λ z out. (out.0, slice-run v before now z.pack slice out.1),
    )
