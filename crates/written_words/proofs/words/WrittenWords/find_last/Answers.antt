use Rattle.std.proofs.Common.{◌≡◌, ◌-◌, ◌<◌, ◌∙◌, ap, sym, subst, arith, List, Some}
use Rattle.std.proofs.Common.{length}
use Rattle.std.specs.Prelude.{slice_get, slice_index_or}
use Rattle.std.proofs.lemmas.Option.{slice_get-get_or}
use Rattle.written_words.specs.declared.Written.{Written}
use Rattle.written_words.specs.Index.{IsFound}
use Rattle.written_words.proofs.Indexing.{last-within, only-one}
use Rattle.written_words.proofs.words.WrittenWords.find_last.Goals as goal

pub returns-then-word-offset : goal.returns-then-word-offset
returns-then-word-offset c =
    let i = c.self.inside in
    let words = i.words.items in
    let n = slice_index_or c.deref.result.now c.chain.result 0 in
    let same : n ≡ slice_index_or i.last.value c.chain.result 0 =
    ap (λ l. slice_index_or l c.chain.result 0) c.deref.ensures in
    let fits = last-within words i.before.items i.last.value c.self.invariant.0 c.chain.result
    c.chain.ensures.small in
    let within : n - 1 < length words = omega (arith, same, fits, c.if-last-eq0.false) in
    let at : slice_get words (n - 1) ≡ Some c.index-word.result.now =
    slice_get-get_or words (n - 1) c.index-word.result.now within
    ∙ ap Some (sym c.index-word.ensures) in
    subst (λ (ws : List Written). IsFound ws c.args.frame c.args.offset (n - 1)) c.self.view_is
    (only-one words i.before.items i.last.value c.self.invariant.0 c.args.frame c.args.offset
    (n - 1) c.index-word.result.now at c.if-word-frame.true c.if-word-offset.true)
