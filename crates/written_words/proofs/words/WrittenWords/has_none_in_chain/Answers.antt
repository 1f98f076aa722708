use Rattle.std.proofs.Common.{◌≡◌, ◌∙◌, List, ap, ap₂, arith, eqb-true, subst, sym}
use Rattle.std.specs.Prelude.{slice_index_or}
use Rattle.std.proofs.lemmas.Option.{slice_get_within}
use Rattle.written_words.specs.declared.Written.{Written}
use Rattle.written_words.specs.Index.{IsIndexed, chain_of}
use Rattle.written_words.proofs.Indexing.{none-found}
use Rattle.written_words.proofs.words.WrittenWords.has_none_in_chain.Goals as goal

pub returns : goal.returns
returns c = λ is.
    let k = c.self.inside in
    let chain = c.chain.result in
    let indexed = subst (λ (ws : List Written). IsIndexed ws k.before.items k.last.value)
    c.self.view_is c.self.invariant.0 in
    let head = indexed.heads chain c.chain.ensures.small in
    let same : slice_index_or c.deref.result.now chain 0 ≡ slice_index_or k.last.value chain 0 =
    ap (λ l. slice_index_or l chain 0) c.deref.ensures in
    let none : slice_index_or c.deref.result.now chain 0 ≡ 0 = eqb-true _ 0 is in
    none-found c.args.self.now c.args.frame c.args.offset (λ i x g a b.
    let below = head.last i x (slice_get_within c.args.self.now i x g) g
    (ap₂ chain_of a b ∙ sym c.chain.ensures.chain) in
    omega (arith, below, same, none))
