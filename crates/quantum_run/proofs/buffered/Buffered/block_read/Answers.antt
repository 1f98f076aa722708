use Rattle.std.proofs.Common.{◌+◌, ◌*◌, ◌≤◌, arith, length, rules}
use Rattle.page_store.specs.Store.{joined, whole}
use Rattle.page_store.proofs.Joined.{home-at}
use Rattle.page_store.proofs.Pages.{length-whole}
use Rattle.written_words.specs.Words.{words_put}
use Rattle.quantum_run.specs.Reading.{count-read}
use Rattle.quantum_run.proofs.Packing.{here-is}
use Rattle.quantum_run.proofs.Paged.{read-block, read-more, read-page, read-within}
use Rattle.quantum_run.proofs.buffered.Buffered.block_read.Goals as goal

pub window-old-requires-clause-here : goal.window-old-requires-clause-here
window-old-requires-clause-here c =
    let b = c.args.self.now in
    let home = home-at b.frames.now.pages c.args.frame b.home
    (read-within b.frames.now.pages b.words c.args.frame c.requires.home) in
    here-is b.frames.now.pages c.args.frame home.0 home.1

pub loop-number-preserved : goal.loop-number-preserved
loop-number-preserved c =
    let b = c.args.self.now in
    let f = c.args.frame in
    let bytes = words_put (joined b.frames.now.pages) b.words in
    let number = c.loop-number.number in
    let inside = read-within b.frames.now.pages b.words f c.requires.home in
    let room : 4096 * f + 4 * number + 4 ≤ length bytes =
    omega (arith, inside, count-read b.frames.now.pages b.words) in
    read-more c.loop-number.bytes c.put_word.new.page bytes c.over.result f (64 * c.args.block)
    number (omega arith) room
    (c.over.ensures (joined b.frames.now.pages) c.window-old.ensures) c.put_word.ensures
    c.loop-number.invariant

pub returns : goal.returns
returns c = λ page there.
    let b = c.args.self.now in
    let f = c.args.frame in
    let bytes = words_put (joined b.frames.now.pages) b.words in
    read-block c.loop-number.bytes (whole page) bytes f c.args.block c.loop-number.number
    (read-page b.frames.now.pages b.words f page there b.home) (length-whole page)
    (search rules) c.loop-number.invariant
