use Rattle.std.proofs.Common.{◌+◌, ◌∙◌, ap, sym, refl}
use Rattle.std.proofs.lemmas.Result.{err_from_is_err_and}
use Rattle.rv_asm.specs.Words.{code_from}
use Rattle.rv_asm.proofs.WordLaws.{one_more, refused_here, all_code, counts_on}
use Rattle.rv_asm.proofs.words.code_of.Goals as goal

pub returns-in_err-number-clause-refused : goal.returns-in_err-number-clause-refused
returns-in_err-number-clause-refused c =
    let p = err_from_is_err_and c.from_residual.result c.from_residual.ensures.1 in
    rw (p.1, p.2) (λ not_memory. refused_here c.args.labels.now c.args.items.now
    (code_from c.args.labels.now 0 c.args.items.now) c.loop-item.code.items
    c.loop-item.item-index c.loop-item.place _ _ c.in_err-number.field-0.0 c.loop-item-test.true
    refl (sym c.word_of.ensures ∙ c.in_err-number.was) c.loop-item.invariant.0)

pub loop-item-preserved : goal.loop-item-preserved
loop-item-preserved c = (
  one_more c.args.labels.now c.args.items.now (code_from c.args.labels.now 0 c.args.items.now)
      c.loop-item.code.items c.add.new.code.items c.loop-item.item-index c.loop-item.place
      (c.loop-item.place + c.halves_in.result) c.in_ok-number.number _ _ c.loop-item-test.true refl
      (sym c.word_of.ensures ∙ c.in_ok-number.was) c.in_ok-add.ensures
      (ap (λ k. c.loop-item.place + k) c.halves_in.ensures.value) c.loop-item.invariant.0,
  counts_on c.args.items.now c.loop-item.item-index c.loop-item.place c.halves_in.result _ _
      c.loop-item-test.true refl c.halves_in.ensures.value c.loop-item.invariant.1,
)

pub returns-clause-ok : goal.returns-clause-ok
returns-clause-ok c = all_code c.args.labels.now c.args.items.now
    (code_from c.args.labels.now 0 c.args.items.now) c.loop-item.code.items
    c.loop-item.item-index c.loop-item.place c.loop-item-test.false c.loop-item.invariant.0
