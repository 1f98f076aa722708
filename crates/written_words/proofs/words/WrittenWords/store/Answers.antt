use Rattle.std.proofs.Common.{◌*◌, ◌/◌, ◌%◌, ◌∙◌, ◌++◌, ◌∷◌, [], ap, sym, cond, Some}
use Rattle.std.proofs.Common.{None}
use Rattle.std.proofs.Common.{Bool, List, length, eqb, subst}
use Rattle.dos_world.specs.Reach.{bytes_of, width}
use Rattle.written_words.specs.declared.Written.{Written}
use Rattle.written_words.specs.Words.{with_word_changed, unwritten, with_bytes_from}
use Rattle.written_words.specs.Index.{IsIndexed}
use Rattle.written_words.proofs.Indexing.{changed-one, is_at-key, length-bytes, some-at}
use Rattle.written_words.proofs.Storing.{bytes-small, fits-word, store-put}
use Rattle.written_words.proofs.words.WrittenWords.store.Goals as goal

pub returns-in-Some-clause-words : goal.returns-in-Some-clause-words
returns-in-Some-clause-words c =
    let words = c.args.self.now in
    let aligned = c.args.offset / 4 * 4 in
    let change : Written → Written =
    with_bytes_from (c.args.offset % 4) (bytes_of (width c.args.size) c.args.value) in
    let f = c.in-Some.ensures in
    ap (λ (b : Bool). cond b (Some (with_word_changed c.args.frame aligned change words))
    (cond (eqb (length words) 1024) None
    (Some (words ++ change (unwritten c.args.frame aligned) ∷ []))))
    (some-at words c.args.frame aligned c.in-Some.place f.word f.here f.is)
    ∙ ap Some (changed-one c.args.frame aligned change words c.in-Some.place f.word f.here f.is
    (λ i y g k. let key = is_at-key c.args.frame aligned y k in f.only i y g key.0 key.1))
    ∙ ap Some (sym (c.change.ensures f.word f.here))

pub returns-in-Some-clause-put : goal.returns-in-Some-clause-put
returns-in-Some-clause-put c = λ is.
    store-put c.args.self.now c.self.inside.before.items c.self.inside.last.value
    (subst (λ (ws : List Written). IsIndexed ws c.self.inside.before.items c.self.inside.last.value)
    c.self.view_is c.self.invariant.0) c.args.frame c.args.offset (width c.args.size)
    (bytes_of (width c.args.size) c.args.value) (length-bytes (width c.args.size) c.args.value)
    (bytes-small (width c.args.size) c.args.value) c.requires.within
    (fits-word c.args.offset c.args.size c.requires.aligned) c.change.new.self
    (returns-in-Some-clause-words c)
