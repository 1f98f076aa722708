use Rattle.std.proofs.Common.{sym, ap, Some}
use Rattle.quantum_run.specs.Pages.{overlay}
use Rattle.quantum_run.proofs.Places.{writes-joined}
use Rattle.quantum_run.proofs.lent.LentPages.write.Goals as goal

pub returns-clause-stored : goal.returns-clause-stored
returns-clause-stored c = λ did.
    let m = c.args.self.now in
    let n = c.put.new.self in
    ap Some (sym (writes-joined (overlay m.own.items m.frames.now.pages)
    (overlay n.own.items n.frames.now.pages) c.args.frame c.args.offset c.args.size c.args.value
    c.requires.within c.put.ensures.pages))
