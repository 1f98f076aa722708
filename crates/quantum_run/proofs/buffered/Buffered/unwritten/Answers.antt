use Rattle.page_store.specs.Store.{joined}
use Rattle.page_store.proofs.Joined.{home-at}
use Rattle.quantum_run.proofs.Paged.{read-same, read-within}
use Rattle.quantum_run.proofs.buffered.Buffered.unwritten.Goals as goal

pub lend-requires : goal.lend-requires
lend-requires c =
    let b = c.args.self.now in
    home-at b.frames.now.pages c.args.frame b.home
    (read-within b.frames.now.pages b.words c.args.frame c.requires)

pub returns : goal.returns
returns c =
    let b = c.args.self.now in
    read-same b.frames.now.pages b.words c.args.frame c.lend.result.now c.lend.ensures
    (c.may_have.ensures.page c.if-may_have.false (joined b.frames.now.pages))
