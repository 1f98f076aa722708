use Rattle.std.proofs.Common.{◌≡◌, ◌∙◌, ap, sym, subst, Some, rules}
use Rattle.std.specs.Prelude.{slice_get, slice_set}
use Rattle.std.proofs.lemmas.Option.{get_or_from_slice_get, slice_get-get_or}
use Rattle.dos_world.specs.Reach.{bytes_of, width}
use Rattle.written_words.specs.declared.Written.{Written}
use Rattle.written_words.specs.Index.{IsAlignedWord}
use Rattle.written_words.specs.Words.{with_bytes_from}
use Rattle.written_words.proofs.Indexing.{changed, length-bytes, marked-changed, stored-is-word}
use Rattle.written_words.proofs.words.WrittenWords.change.Goals as goal

pub invariant_of-self : goal.invariant_of-self
invariant_of-self c =
    let words = c.self.inside.words.items in
    let w = c.index.result.now in
    let there = slice_get-get_or words c.args.place w (search rules) in
    let at : slice_get words c.args.place ≡ Some w = there ∙ ap Some (sym c.index.ensures) in
    let is : IsAlignedWord w = subst IsAlignedWord (sym c.index.ensures)
    (c.self.invariant.0.each c.args.place w (search rules)) in (
      changed words c.self.inside.before.items c.self.inside.last.value c.args.place w
          c.with_value.result at (ap (λ (z : Written). z.frame) c.with_value.ensures)
          (ap (λ (z : Written). z.offset) c.with_value.ensures)
          (subst IsAlignedWord (sym c.with_value.ensures) (stored-is-word w c.args.first
          (width c.args.size) (bytes_of (width c.args.size) c.args.value)
          (length-bytes (width c.args.size) c.args.value) c.requires.within is))
          c.self.invariant.0,
      marked-changed words c.self.inside.marks.value c.args.place w c.with_value.result at
          (ap (λ (z : Written). z.frame) c.with_value.ensures)
          (ap (λ (z : Written). z.offset) c.with_value.ensures) c.self.invariant.1,
      search rules,
      search rules,
    )

pub returns : goal.returns
returns c = λ x at.
    let words = c.self.inside.words.items in
    let w = c.index.result.now in
    let here : slice_get words c.args.place ≡ Some x =
    ap (λ ws. slice_get ws c.args.place) c.self.view_is ∙ at in
    let same : w ≡ x =
    c.index.ensures ∙ get_or_from_slice_get words c.args.place x w here in
    ap (slice_set words c.args.place)
    (c.with_value.ensures
    ∙ ap (with_bytes_from c.args.first (bytes_of (width c.args.size) c.args.value)) same)
    ∙ ap (λ ws. slice_set ws c.args.place
    (with_bytes_from c.args.first (bytes_of (width c.args.size) c.args.value) x)) c.self.view_is
