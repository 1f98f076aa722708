use Rattle.std.proofs.Common.{◌≡◌, ◌∷◌, [], sym, subst, rules, List}
use Rattle.code_pages.specs.Lines.{AreKnownPages}
use Rattle.code_pages.specs.declared.line.Line.{Line}
use Rattle.code_pages.proofs.KnownLaws.{no-pages}
use Rattle.code_pages.proofs.known.CodePages.reserve.Goals as goal

pub invariant_of-result : goal.invariant_of-result
invariant_of-result c =
    let is : c.push_reserved.new.self.items ≡ c.end.result ∷ [] = search rules in (
      subst (λ (ls : List Line). AreKnownPages (record {
        lines = ls;
        pages = c.in_ok-no_pages.field-0.items;
      })) (sym is) (no-pages c.end.result c.in_ok-no_pages.field-0.items c.end.ensures.kind
          c.end.ensures.run c.in_ok-no_pages.ensures),
      λ h. search rules,
    )
