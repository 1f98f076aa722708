use Rattle.std.proofs.Common.{◌∙◌}
use Rattle.page_store.specs.Store.{joined}
use Rattle.page_store.proofs.Joined.{home-at}
use Rattle.quantum_run.proofs.Packing.{here-is}
use Rattle.quantum_run.proofs.Paged.{read-window, read-within}
use Rattle.quantum_run.proofs.buffered.Buffered.read_over.Goals as goal

pub window-old-requires-clause-here : goal.window-old-requires-clause-here
window-old-requires-clause-here c =
    let b = c.args.self.now in
    let home = home-at b.frames.now.pages c.args.frame b.home
    (read-within b.frames.now.pages b.words c.args.frame c.requires.home) in
    here-is b.frames.now.pages c.args.frame home.0 home.1

pub returns-clause-value : goal.returns-clause-value
returns-clause-value c =
    let b = c.args.self.now in
    c.number_in.ensures.value
    ∙ read-window b.frames.now.pages b.words c.over-word.result c.args.frame c.args.offset
    c.args.size c.requires.aligned
    (c.over-word.ensures (joined b.frames.now.pages) c.window-old.ensures)
