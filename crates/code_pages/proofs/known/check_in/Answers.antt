use Rattle.std.proofs.Common.{◌≡◌, ◌∙◌, ap, sym, subst, List, ℕ, refl}
use Rattle.code_pages.specs.Lines.{CodePage, IsKnownPage, AreStartsFrom, starts_of_slot}
use Rattle.code_pages.specs.Lines.{page_of_slot}
use Rattle.code_pages.proofs.Lists.{Some-same}
use Rattle.code_pages.proofs.LineLaws.{kept-all}
use Rattle.code_pages.proofs.KnownLaws.{slot-page-known, slot-page-starts}
use Rattle.code_pages.proofs.known.check_in.Goals as goal

pub returns-then-not-have_page-clause-lines : goal.returns-then-not-have_page-clause-lines
returns-then-not-have_page-clause-lines c = kept-all c.args.lines.now.items

pub check-requires-clause-known : goal.check-requires-clause-known
check-requires-clause-known c =
    let page : c.in-Some.code ≡ page_of_slot c.args.slot.now =
    Some-same (sym c.in-Some.is ∙ c.if-not-have_page.ensures.there refl) in
    subst (λ (p : CodePage). IsKnownPage c.args.lines.now.items p) (sym page)
    (slot-page-known c.args.lines.now.items c.args.slot.now c.requires.known)

pub returns-in-Some-clause-starts : goal.returns-in-Some-clause-starts
returns-in-Some-clause-starts c = λ n.
    let page : c.in-Some.code ≡ page_of_slot c.args.slot.now =
    Some-same (sym c.in-Some.is ∙ c.if-not-have_page.ensures.there refl) in
    subst (λ (xs : List ℕ). AreStartsFrom n (starts_of_slot c.args.slot.now) xs)
    (ap (λ (p : CodePage). p.starts) (sym page) ∙ sym c.check.ensures.starts)
    (slot-page-starts n c.args.slot.now)
