use Rattle.quantum_run.proofs.Places.{read-there}
use Rattle.quantum_run.proofs.pages.InPlacePages.read.Goals as goal

pub returns-clause-value : goal.returns-clause-value
returns-clause-value c =
    read-there c.args.self.now.frames.now.pages c.args.frame c.args.offset c.args.size
    c.lend.result.now c.read.result c.lend.ensures c.requires.within c.read.ensures.value
