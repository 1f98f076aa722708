use Rattle.std.proofs.Common.{◌≡◌, drop}
use Rattle.written_words.specs.Words.{words_put}
use Rattle.page_store.specs.Store.{joined}
use Rattle.kernel_calls.specs.Committing.{StandsButBytes}
use Rattle.kernel_calls.proofs.committing.put_words.Given as goal

-- the words that are left, put behind those so far, make what all make
abbrev pub invariant-loop-place : goal.invariant-loop-place
invariant-loop-place l = record {
  puts : words_put (joined l.frames.pages) (drop l.place l.words)
      ≡ words_put (joined l.fn.frames.pages) l.words;
  stays : StandsButBytes l.fn.frames l.frames;
}
