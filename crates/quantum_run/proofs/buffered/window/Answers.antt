use Rattle.quantum_run.proofs.Paged.{window-is}
use Rattle.quantum_run.proofs.buffered.window.Goals as goal

pub returns : goal.returns
returns c =
    window-is c.args.frames.now.pages c.args.frame c.args.offset c.lend.result.now
    c.bytes-bytes.result.now c.lend.ensures c.bytes-bytes.ensures.value c.bytes-bytes.ensures.count
    c.requires.within
