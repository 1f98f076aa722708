use Rattle.std.proofs.Common.{MutBor, rules, subst, sym}
use Rattle.code_pages.specs.Lines.{bytes_of_pages}
use Rattle.page_store.specs.declared.compared.Compared.{Compared}
use Rattle.quantum_run.specs.Knowing.{AreRight}
use Rattle.quantum_run.specs.Pages.{overlay}
use Rattle.quantum_run.specs.ThreadRuns.{store_of}
use Rattle.quantum_run.proofs.FlatRuns.{run-ends}
use Rattle.quantum_run.proofs.Whole.{stops-flat}
use Rattle.quantum_run.proofs.run.run_written.Goals as goal

pub run-stop-requires-clause-right : goal.run-stop-requires-clause-right
run-stop-requires-clause-right c =
    let m = c.new-memory.result in
    let pages = overlay m.pages.own.items m.pages.frames.now.pages in
    let known = bytes_of_pages c.args.code.now in
    subst (λ (x : MutBor Compared). AreRight x.now.slots x.now.blocks pages known)
    (sym c.new-memory.ensures.compared) (c.requires.right pages known)

pub returns-clause-runs : goal.returns-clause-runs
returns-clause-runs c =
    let frames = c.args.frames.now in
    run-ends c.args.tid (store_of frames.owners (overlay c.args.own.now.items frames.pages))
    c.args.space.now.entries _ c.args.regs.now c.run-stop.new.regs c.args.budget.now
    c.run-stop.new.budget c.run-stop.ensures.within (search rules)

pub returns-clause-stop : goal.returns-clause-stop
returns-clause-stop c =
    let frames = c.args.frames.now in
    stops-flat _ c.args.tid (store_of frames.owners (overlay c.args.own.now.items frames.pages))
    c.args.space.now.entries _ c.args.regs.now c.run-stop.new.regs c.args.budget.now
    c.run-stop.new.budget c.run-stop.result (search rules)
