use Rattle.std.proofs.Common.{◌≡◌, ◌∙◌, ◌⊎◌, ◌<◌, Option, length, ap, sym, subst, rules, Some, inr}
use Rattle.std.specs.Prelude.{slice_get}
use Rattle.std.proofs.lemmas.Option.{slice_get-get_or}
use Rattle.code_pages.specs.Lines.{CodePage, Known, IsStartIn, start_in}
use Rattle.code_pages.proofs.KnownLaws.{slot-start, start-known, slot-got}
use Rattle.code_pages.proofs.known.CodePages.line_at.Goals as goal

pub returns-in-Some-clause-start : goal.returns-in-Some-clause-start
returns-in-Some-clause-start c =
    let pages = c.self.inside.pages.items in
    let slot = c.index.result.now in
    let is : slice_get pages c.args.place ≡ Some (Some c.in-Some.code) =
    slice_get-get_or pages c.args.place slot (search rules)
    ∙ ap Some (sym c.index.ensures ∙ c.in-Some.is) in
    subst (λ (k : Known). (c.start_at.result ≡ 0)
    ⊎ IsStartIn k c.args.place c.args.offset c.start_at.result) c.self.view_is
    (slot-start (record { lines = c.self.inside.lines.items; pages = pages }) c.args.place
    c.args.offset c.start_at.result (Some c.in-Some.code) is (inr (sym c.start_at.ensures)))

pub returns-in-Some-clause-within : goal.returns-in-Some-clause-within
returns-in-Some-clause-within c = λ some.
    let pages = c.self.inside.pages.items in
    let slot = c.index.result.now in
    let is : slice_get pages c.args.place ≡ Some (Some c.in-Some.code) =
    slice_get-get_or pages c.args.place slot (search rules)
    ∙ ap Some (sym c.index.ensures ∙ c.in-Some.is) in
    subst (λ (k : Known). c.start_at.result < length k.lines) c.self.view_is
    (start-known (record { lines = c.self.inside.lines.items; pages = pages }) c.args.place
    c.args.offset c.start_at.result c.self.invariant.0
    (ap (λ (o : Option CodePage). start_in o c.args.offset)
    (slot-got pages c.args.place (Some c.in-Some.code) is) ∙ sym c.start_at.ensures) some)
