use Rattle.std.proofs.Common.{◌%◌, refl, rules}
use Rattle.written_words.proofs.Indexing.{marked-by, pushed-by}
use Rattle.written_words.proofs.words.WrittenWords.add.Goals as goal

pub invariant_of-self : goal.invariant_of-self
invariant_of-self c = (
  pushed-by c.self.inside.words.items c.self.inside.before.items c.self.inside.last.value
      c.args.word _ _ _ c.chain-chain.result _ c.len.result c.push_reserved-2.ensures.items
      c.push_reserved.ensures.items (search rules) c.chain-chain.ensures.chain (search rules)
      (search rules) (search rules) c.requires.word (search rules) c.self.invariant.0,
  marked-by c.self.inside.words.items c.self.inside.marks.value c.args.word _ _
      (c.args.word.frame % 256) c.push_reserved-2.ensures.items (search rules) refl
      c.self.invariant.1,
  search rules,
  search rules,
)
