use Rattle.std.proofs.Common.{◌≡◌, ◌/◌, ◌∙◌, ap, sym, subst, List, ℕ, suc, arith, Option}
use Rattle.std.specs.Prelude.{slice_index}
use Rattle.code_pages.specs.declared.line.Line.{Line}
use Rattle.code_pages.specs.Lines.{CodePage, IsKnownPage, AreStartsFrom, starts_of_slot, start_in}
use Rattle.code_pages.specs.Lines.{IsStaleAt}
use Rattle.code_pages.proofs.Lists.{index-of-got}
use Rattle.code_pages.proofs.LineLaws.{known-cleared, starts-cleared}
use Rattle.code_pages.proofs.known.relearn_in.Goals as goal

pub returns-else-relearn-clause-known : goal.returns-else-relearn-clause-known
returns-else-relearn-clause-known c =
    let lines = c.relearn.new.lines.items in
    let page = c.in-Some.code in
    let half = c.args.offset / 2 in
    let start : slice_index page.starts half ≡ c.args.at =
    ap (λ (o : Option CodePage). start_in o c.args.offset) (sym c.in-Some.is) ∙ c.requires.begins in
    let stale : IsStaleAt lines c.args.at =
    subst (λ (ls : List Line). IsStaleAt ls c.args.at)
    (sym (c.relearn.ensures.same c.if-relearn.false)) c.requires.stale in
    subst (λ (p : CodePage). IsKnownPage lines p) (sym c.clear.ensures)
    (known-cleared lines page half (omega (arith, c.requires.offset))
    (λ at got. subst (λ (n : ℕ). IsStaleAt lines n)
    (sym start ∙ index-of-got page.starts half (suc at) got) stale) c.relearn.ensures.known)

pub returns-else-relearn-clause-starts : goal.returns-else-relearn-clause-starts
returns-else-relearn-clause-starts c = λ n.
    let page = c.in-Some.code in
    subst (λ (o : Option CodePage). AreStartsFrom n (starts_of_slot o) c.clear.new.self.starts)
    (sym c.in-Some.is)
    (subst (λ (p : CodePage). AreStartsFrom n page.starts p.starts) (sym c.clear.ensures)
    (starts-cleared n (c.args.offset / 2) page.starts))
