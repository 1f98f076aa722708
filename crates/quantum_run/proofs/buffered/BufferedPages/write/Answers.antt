use Rattle.std.proofs.Common.{◌+◌, ◌≤◌, arith, length}
use Rattle.dos_world.specs.Reach.{bytes_of, width}
use Rattle.page_store.specs.Store.{joined}
use Rattle.written_words.specs.Words.{words_put}
use Rattle.written_words.proofs.Indexing.{length-bytes}
use Rattle.quantum_run.proofs.Overlay.{here-page, here-within}
use Rattle.quantum_run.specs.Reading.{count-read}
use Rattle.quantum_run.proofs.Paged.{writes-with}
use Rattle.quantum_run.proofs.buffered.BufferedPages.write.Goals as goal

pub returns-clause-pages : goal.returns-clause-pages
returns-clause-pages c = λ is.
    let pages = c.args.self.now.frames.now.pages in
    let old = c.args.self.now.words in
    let home = here-page pages c.args.frame c.requires.own in
    let fits : c.args.offset + length (bytes_of (width c.args.size) c.args.value) ≤ 4096 =
    omega (arith, c.requires.within, length-bytes (width c.args.size) c.args.value) in
    writes-with pages (words_put (joined pages) old) (words_put (joined pages) c.store.new.words)
    c.args.frame c.args.offset (bytes_of (width c.args.size) c.args.value) home.0 home.1 fits
    (here-within pages c.args.frame c.requires.own) (count-read pages old)
    (c.store.ensures.put is (joined pages))
