use Rattle.std.proofs.Common.{◌≡◌, ◌∙◌, ap, sym, subst, rules, Some, arith}
use Rattle.std.specs.Prelude.{slice_get}
use Rattle.std.proofs.lemmas.Option.{slice_get-get_or}
use Rattle.code_pages.specs.Lines.{Known, IsLiveAt, IsStaleAt}
use Rattle.code_pages.proofs.known.CodePages.is_live.Goals as goal

pub returns-then-line-eq0-clause-stale : goal.returns-then-line-eq0-clause-stale
returns-then-line-eq0-clause-stale c = λ no.
    let line = c.index-line.result.now in
    let is : slice_get c.self.inside.lines.items c.args.at ≡ Some line =
    slice_get-get_or c.self.inside.lines.items c.args.at line (search rules)
    ∙ ap Some (sym c.index-line.ensures) in
    subst (λ (k : Known). IsStaleAt k.lines c.args.at) c.self.view_is
    (record {
      line = line;
      is = is;
      kind = line.sized c.if-line-eq0.true;
      size = c.if-line-eq0.true;
    })

pub returns-clause-live : goal.returns-clause-live
returns-clause-live c = λ yes.
    let line = c.index-line.result.now in
    let is : slice_get c.self.inside.lines.items c.args.at ≡ Some line =
    slice_get-get_or c.self.inside.lines.items c.args.at line (search rules)
    ∙ ap Some (sym c.index-line.ensures) in
    subst (λ (k : Known). IsLiveAt k.lines c.args.at) c.self.view_is
    (record { line = line; is = is; size = omega (arith, c.if-line-eq0.false) })
