use Rattle.quantum_run.proofs.Comparing.{checked-page}
use Rattle.quantum_run.proofs.pages.InPlacePages.check.Goals as goal

pub returns-clause-checked : goal.returns-clause-checked
returns-clause-checked c = λ did.
    checked-page c.args.self.now.frames.now.pages c.args.frame c.args.code.now c.check.new.self
    c.args.place c.args.block c.lend.result.now c.bytes.result.now c.check.result did
    c.lend.ensures c.bytes.ensures.count c.bytes.ensures.value c.check.ensures.there
    c.check.ensures.known c.check.ensures.pages
