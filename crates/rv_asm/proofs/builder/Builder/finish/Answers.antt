use Rattle.std.proofs.Common.{◌%◌, ap, sym, ◌∙◌}
use Rattle.std.proofs.lemmas.Result.{err_from_is_err_and}
use Rattle.rv_asm.specs.Source.{Source}
use Rattle.rv_asm.proofs.FinishLaws.{finished-range, refused_by, file_made, file_read}
use Rattle.rv_asm.proofs.builder.Builder.finish.Goals as goal

pub returns-then-not-is_in_range-clause-refused : goal.returns-then-not-is_in_range-clause-refused
returns-then-not-is_in_range-clause-refused c =
    λ not_memory. finished-range c.args.self (sym c.is_in_range.ensures ∙ c.if-not-is_in_range.true)

pub returns-in_err-code-clause-refused : goal.returns-in_err-code-clause-refused
returns-in_err-code-clause-refused c =
    let p = err_from_is_err_and c.from_residual.result c.from_residual.ensures.1 in
    rw (p.1, p.2) (λ not_memory.
    refused_by c.args.self c.deref.result.now c.deref-2.result.now
    c.in_err-code.field-0.0
    (c.deref.ensures.value ∙ ap (λ (s : Source). s.labels) c.self.view_is)
    (c.deref-2.ensures.value ∙ ap (λ (s : Source). s.items) c.self.view_is)
    (sym c.is_in_range.ensures ∙ c.if-not-is_in_range.false)
    (c.in_err-code.ensures.refused not_memory))

pub returns-clause-file : goal.returns-clause-file
returns-clause-file c =
    file_made c.args.self c.deref.result.now c.deref-2.result.now c.in_ok-code.code.items
    c.deref-3.result.now c.in_ok-file.field-0.items
    (c.deref.ensures.value ∙ ap (λ (s : Source). s.labels) c.self.view_is)
    (c.deref-2.ensures.value ∙ ap (λ (s : Source). s.items) c.self.view_is)
    (sym c.is_in_range.ensures ∙ c.if-not-is_in_range.false) c.in_ok-code.ensures.ok
    c.deref-3.ensures.value c.in_ok-file.ensures

pub returns-clause-read : goal.returns-clause-read
returns-clause-read c =
    file_read c.args.self c.deref.result.now c.deref-2.result.now c.in_ok-code.code.items
    c.deref-3.result.now c.in_ok-file.field-0.items
    (c.deref.ensures.value ∙ ap (λ (s : Source). s.labels) c.self.view_is)
    (c.deref-2.ensures.value ∙ ap (λ (s : Source). s.items) c.self.view_is)
    (sym c.is_in_range.ensures ∙ c.if-not-is_in_range.false)
    (ap (λ (s : Source). s.base % 4096) (sym c.self.view_is) ∙ c.self.invariant.aligned)
    c.in_ok-code.ensures.ok c.deref-3.ensures.value c.in_ok-file.ensures
