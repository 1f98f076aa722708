use Rattle.std.proofs.Common.{arith}
use Rattle.written_words.proofs.Indexing.{none-found}
use Rattle.written_words.proofs.words.WrittenWords.find.Goals as goal

pub returns : goal.returns
returns c = none-found c.args.self.now c.args.frame c.args.offset (λ i x g a b.
    let below = c.loop-next.invariant.below i x g a b in
    omega (arith, below, c.loop-next-test.false))
