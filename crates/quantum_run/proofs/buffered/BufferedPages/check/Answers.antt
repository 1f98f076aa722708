use Rattle.std.proofs.Common.{◌≡◌, length, rules}
use Rattle.quantum_run.specs.Buffering.{pages_read}
use Rattle.quantum_run.proofs.Comparing.{checked-by}
use Rattle.quantum_run.proofs.Overlay.{here-page}
use Rattle.quantum_run.proofs.buffered.BufferedPages.check.Goals as goal

pub returns-in-None-clause-checked : goal.returns-in-None-clause-checked
returns-in-None-clause-checked c = λ did.
    let b = c.args.self.now in
    let pages = pages_read b.frames.now.pages b.words in
    let page = here-page pages c.args.frame c.requires.home in
    let full : length c.block_read.result ≡ 4096 = search rules in
    checked-by pages c.args.frame c.args.code.now c.check-in-None.new.self c.args.place c.args.block
    page.0 c.block_read.result c.check-in-None.result did page.1 full
    (c.block_read.ensures page.0 page.1) c.check-in-None.ensures.there
    c.check-in-None.ensures.known c.check-in-None.ensures.pages
