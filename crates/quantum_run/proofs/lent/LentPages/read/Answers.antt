use Rattle.quantum_run.specs.Pages.{overlay}
use Rattle.quantum_run.proofs.Places.{read-there}
use Rattle.quantum_run.proofs.lent.LentPages.read.Goals as goal

pub returns-clause-value : goal.returns-clause-value
returns-clause-value c =
    let m = c.args.self.now in
    read-there (overlay m.own.items m.frames.now.pages) c.args.frame c.args.offset c.args.size
    c.page_of.result.now c.read.result c.page_of.ensures c.requires.within c.read.ensures.value
