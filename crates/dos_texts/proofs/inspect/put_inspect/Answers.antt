use Rattle.std.proofs.Common.{arith, ap, ◌∙◌}
use Rattle.dos_texts.proofs.Pieces.{on_err}
use Rattle.dos_texts.specs.Printed.{entry_line}
use Rattle.dos_texts.proofs.Parts.{parts_start, parts_more, parts_all, front_first, front_part}
use Rattle.dos_texts.proofs.inspect.put_inspect.Goals as goal

pub loop-part-init : goal.loop-part-init
loop-part-init g c =
    let line = c.entry_line-first.ensures ∙ ap entry_line c.entry.ensures.entry in
    record {
      told = parts_start _ _ _ _ c.args.image.now.parts line c.in_ok-put_line.ensures.told;
      later = c.put_line.ensures.cause.later;
      steady = c.in_ok-put_line.ensures.steady;
    }

pub loop-part-preserved : goal.loop-part-preserved
loop-part-preserved g c =
    let cause = c.put_line-in-loop-part.ensures.cause in
    record {
      told = parts_more _ _ _ _ _ _ c.args.image.now.parts c.loop-part.part-index c.part-item.result
          c.parts-part-items.ensures.parts
          (omega arith) c.part-item.is c.part_line-next.ensures c.loop-part.invariant.told
          c.in_ok-put_line-2.ensures.told;
      later = omega (arith, c.loop-part.invariant.later, cause.later);
      steady = c.in_ok-put_line-2.ensures.steady ∙ c.loop-part.invariant.steady;
    }

pub returns-clause-told : goal.returns-clause-told
returns-clause-told g c =
    parts_all _ _ (entry_line c.args.image.now.entry) _ _ _ c.parts-part-items.ensures.parts
    c.loop-part-test.false c.loop-part.invariant.told

pub returns-in_err-put_line-clause-front : goal.returns-in_err-put_line-clause-front
returns-in_err-put_line-clause-front g c =
    on_err c.from_residual.result _
    (front_first _ _ _ _ c.args.image.now.parts
    (c.entry_line-first.ensures ∙ ap entry_line c.entry.ensures.entry)
    c.in_err-put_line.ensures.front)

pub returns-in_err-put_line-2-clause-front : goal.returns-in_err-put_line-2-clause-front
returns-in_err-put_line-2-clause-front g c =
    on_err c.from_residual-in_err-put_line-2.result _
    (front_part _ _ _ _ _ _ c.args.image.now.parts c.loop-part.part-index c.part-item.result
    c.parts-part-items.ensures.parts (omega arith) c.part-item.is c.part_line-next.ensures
    c.loop-part.invariant.told c.in_err-put_line-2.ensures.front)
