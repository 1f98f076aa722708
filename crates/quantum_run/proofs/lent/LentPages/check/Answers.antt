use Rattle.quantum_run.specs.Pages.{overlay}
use Rattle.quantum_run.proofs.Comparing.{checked-page}
use Rattle.quantum_run.proofs.lent.LentPages.check.Goals as goal

pub returns-clause-checked : goal.returns-clause-checked
returns-clause-checked c = λ did.
    let m = c.args.self.now in
    checked-page (overlay m.own.items m.frames.now.pages) c.args.frame c.args.code.now
    c.check.new.self c.args.place c.args.block c.page_of.result.now c.bytes.result.now
    c.check.result did c.page_of.ensures c.bytes.ensures.count c.bytes.ensures.value
    c.check.ensures.there c.check.ensures.known c.check.ensures.pages
