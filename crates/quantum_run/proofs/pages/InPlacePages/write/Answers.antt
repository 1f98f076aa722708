use Rattle.std.proofs.Common.{sym, ap, Some}
use Rattle.quantum_run.proofs.Places.{writes-joined}
use Rattle.quantum_run.proofs.pages.InPlacePages.write.Goals as goal

pub returns-clause-stored : goal.returns-clause-stored
returns-clause-stored c = λ did.
    ap Some (sym (writes-joined c.args.self.now.frames.now.pages c.put.new.self.frames.now.pages
    c.args.frame c.args.offset c.args.size c.args.value c.requires.within c.put.ensures.pages))
