use Rattle.std.proofs.Common.{rules}
use Rattle.written_words.proofs.Indexing.{none_indexed, none_marked}
use Rattle.written_words.proofs.words.WrittenWords.reserve.Goals as goal

pub invariant_of-result : goal.invariant_of-result
invariant_of-result c = (
  none_indexed _ _ _ (search rules) (search rules) (search rules),
  none_marked _ _ (search rules) (search rules),
  search rules,
  search rules,
)
