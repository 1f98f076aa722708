use Rattle.std.proofs.Common.{◌≡◌, ap, sym, subst, arith, length, List, [], Option}
use Rattle.code_pages.specs.declared.line.Line.{Line}
use Rattle.code_pages.specs.Lines.{AreKnownPages, CodePage}
use Rattle.code_pages.proofs.KnownLaws.{known-empty}
use Rattle.code_pages.proofs.known.CodePages.empty.Goals as goal

pub invariant_of-result : goal.invariant_of-result
invariant_of-result c = (
  subst (λ (ls : List Line). AreKnownPages (record { lines = ls; pages = c.new-2.result.items }))
      (sym c.new.ensures.items)
      (subst (λ (ps : List (Option CodePage)). AreKnownPages (record { lines = []; pages = ps }))
      (sym c.new-2.ensures.items) known-empty),
  λ h. let e : length c.new-2.result.items ≡ 0 = ap length c.new-2.ensures.items in
      absurd (omega (arith, e, h)),
)
