use Rattle.std.proofs.Common.{◌*◌}
use Rattle.page_store.specs.Store.{joined}
use Rattle.written_words.specs.Words.{words_put}
use Rattle.quantum_run.proofs.Paged.{IsReadUpTo}
use Rattle.quantum_run.proofs.buffered.Buffered.block_read.Given as goal

abbrev pub invariant-loop-number : goal.invariant-loop-number
invariant-loop-number l =
    IsReadUpTo l.bytes (words_put (joined l.fn.self.frames.now.pages) l.fn.self.words) l.fn.frame
    (64 * l.fn.block) l.number
