use Rattle.std.proofs.Common.{ℕ, Bool, sym, subst, ◌∙◌, arith}
use Rattle.code_pages.specs.declared.kind.Kind.{Kind}
use Rattle.code_pages.specs.Codes.{code_size}
use Rattle.code_pages.specs.Kinds.{IsOfKind}
use Rattle.code_pages.proofs.KindLaws.{of-kind-for, of_code}
use Rattle.code_pages.proofs.LineLaws.{some-size}
use Rattle.code_pages.proofs.line.Line.of.Goals as goal

pub invariant_of-result : goal.invariant_of-result
invariant_of-result c = record {
  is = of-kind-for c.kind_of-kind.result.0 c.kind_for-kind.result c.kind_of-kind.result.1
      c.form_of-form.result c.code_size.result c.kind_for-kind.ensures.is
      (subst (λ (n : ℕ). IsOfKind c.kind_of-kind.result.0 c.kind_of-kind.result.1
      c.form_of-form.result n) (sym c.code_size.ensures)
      (subst (λ (k : Kind × Bool). IsOfKind k.0 k.1 c.form_of-form.result
      (code_size c.args.code))
      (sym c.kind_of-kind.ensures)
      (of_code c.form_of-form.result c.args.code c.form_of-form.ensures)));
  sized = λ none. absurd (omega (arith, some-size c.args.code, sym c.code_size.ensures ∙ none));
  nonzero = c.kind_for-kind.ensures.nonzero;
}
