use Rattle.std.proofs.Common.{rules}
use Rattle.written_words.proofs.Indexing.{none_indexed, none_marked}
use Rattle.written_words.proofs.words.WrittenWords.clear.Goals as goal

pub invariant_of-self : goal.invariant_of-self
invariant_of-self c = (
  none_indexed _ _ _ c.clear.ensures.items c.clear-2.ensures.items c.reset.ensures,
  none_marked _ _ c.clear.ensures.items c.unmark.ensures,
  search rules,
  search rules,
)
