use Rattle.std.proofs.Common.{◌≡◌, ◌+◌, ◌*◌, ◌∙◌, ap, sym, subst, take, drop, refl}
use Rattle.std.proofs.Common.{List}
use Rattle.std.specs.Prelude.{slice_get}
use Rattle.std.proofs.lemmas.Option.{get_or_from_slice_get}
use Rattle.dos_world.specs.Bytes.{bytes_of}
use Rattle.written_words.specs.declared.Written.{Written}
use Rattle.written_words.specs.Index.{IsIndexed}
use Rattle.written_words.specs.Words.{written_by}
use Rattle.written_words.proofs.Indexing.{is_at-key, length-bytes}
use Rattle.written_words.proofs.Putting.{all-written, over-found, window-length}
use Rattle.written_words.proofs.words.WrittenWords.whole.Goals as goal

pub returns-then-word-eq-WHOLE : goal.returns-then-word-eq-WHOLE
returns-then-word-eq-WHOLE c = λ bytes fits.
    let words = c.args.self.now in
    let p = 4096 * c.args.frame + c.args.offset in
    let f = c.in-Some.ensures in
    let key = is_at-key c.args.frame c.args.offset f.word f.is in
    let same : c.index-word.result.now ≡ f.word = c.index-word.ensures
    ∙ get_or_from_slice_get c.self.inside.words.items c.in-Some.place f.word c.index-word.result.now
    (ap (λ ws. slice_get ws c.in-Some.place) c.self.view_is ∙ f.here) in
    let old = take 4 (drop p bytes) in
    let mask : f.word.mask ≡ 15 =
    ap (λ (z : Written). z.mask) (sym same) ∙ c.if-word-eq-WHOLE.true in
    sym (over-found words c.self.inside.before.items c.self.inside.last.value
    (subst (λ (ws : List Written). IsIndexed ws c.self.inside.before.items c.self.inside.last.value)
    c.self.view_is c.self.invariant.0)
    c.args.frame c.args.offset c.requires.aligned c.requires.within c.in-Some.place f.word f.here
    key.0 key.1 bytes old refl)
    ∙ ap (λ m. written_by m old 0 (bytes_of 4 f.word.value)) mask
    ∙ all-written old (bytes_of 4 f.word.value) (window-length 4 p bytes fits)
    (length-bytes 4 f.word.value)
    ∙ ap (λ (z : Written). bytes_of 4 z.value) (sym same)
