use Rattle.std.proofs.Common.{◌≡◌, ◌+◌, ◌*◌, ◌∙◌, ap, sym, subst, take, drop, Some, List}
use Rattle.std.specs.Prelude.{slice_get}
use Rattle.std.proofs.lemmas.Option.{get_or_from_slice_get}
use Rattle.dos_world.specs.Bytes.{bytes_of}
use Rattle.written_words.specs.declared.Written.{Written}
use Rattle.written_words.specs.Index.{IsIndexed}
use Rattle.written_words.specs.Words.{words_put, written_by}
use Rattle.written_words.proofs.Indexing.{is_at-key}
use Rattle.written_words.proofs.Putting.{over-found, over-none}
use Rattle.written_words.proofs.words.WrittenWords.over.Goals as goal

pub returns-in-Some : goal.returns-in-Some
returns-in-Some c = λ bytes is.
    let words = c.self.inside.words.items in
    let p = 4096 * c.args.frame + c.args.offset in
    let f = c.in-Some.ensures in
    let key = is_at-key c.args.frame c.args.offset f.word f.is in
    let at : slice_get words c.in-Some.place ≡ Some f.word =
    ap (λ ws. slice_get ws c.in-Some.place) c.self.view_is ∙ f.here in
    let same = c.index.ensures
    ∙ get_or_from_slice_get words c.in-Some.place f.word c.index.result.now at in
    c.bytes_over.ensures
    ∙ ap (λ (z : Written). written_by z.mask c.args.old 0 (bytes_of 4 z.value)) same
    ∙ over-found words c.self.inside.before.items c.self.inside.last.value c.self.invariant.0
    c.args.frame c.args.offset c.requires.aligned c.requires.within c.in-Some.place f.word at key.0
    key.1 bytes c.args.old is
    ∙ ap (λ ws. take 4 (drop p (words_put bytes ws))) c.self.view_is

pub returns-in-None : goal.returns-in-None
returns-in-None c = λ bytes is.
    is ∙ sym (over-none c.args.self.now c.self.inside.before.items c.self.inside.last.value
    (subst (λ (ws : List Written). IsIndexed ws c.self.inside.before.items c.self.inside.last.value)
    c.self.view_is c.self.invariant.0) c.args.frame c.args.offset c.requires.aligned
    c.requires.within c.in-None.ensures bytes)
