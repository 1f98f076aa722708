use Rattle.written_words.proofs.Indexing.{IsSearch}
use Rattle.written_words.proofs.words.WrittenWords.find.Given as goal

abbrev pub invariant-loop-next : goal.invariant-loop-next
invariant-loop-next l = IsSearch l.fn.self l.fn.frame l.fn.offset l.next

abbrev pub decreases-loop-next : goal.decreases-loop-next
decreases-loop-next l = l.next
