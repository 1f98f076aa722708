use Rattle.std.proofs.Common.{◌+◌, ◌*◌, ◌∙◌, refl, sym, Some}
use Rattle.dos_world.specs.Reach.{width}
use Rattle.page_store.proofs.Joined.{joined-number}
use Rattle.quantum_run.specs.Buffering.{pages_read}
use Rattle.quantum_run.proofs.buffered.BufferedPages.read.Goals as goal

pub returns-in-Some-clause-value : goal.returns-in-Some-clause-value
returns-in-Some-clause-value c =
    let b = c.args.self.now in
    c.read.ensures.value
    ∙ sym (joined-number (pages_read b.frames.now.pages b.words) c.args.frame c.args.offset
    (width c.args.size) (4096 * c.args.frame + c.args.offset) (Some c.in-Some.page.now)
    c.in-Some.ensures c.requires.within refl)
