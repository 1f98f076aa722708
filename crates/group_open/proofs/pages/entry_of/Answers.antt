use Rattle.std.proofs.Common.{◌||◌, ◌&&◌, ap, sym, ◌∙◌}
use Rattle.flat_machine.specs.Opening.{touches}
use Rattle.group_open.proofs.PageLaws.{right_more}
use Rattle.group_open.proofs.pages.entry_of.Goals as goal

pub loop-part-preserved : goal.loop-part-preserved
loop-part-preserved c =
    let parts = c.parts-part-items.result.now in
    let part = c.part-item.result in
    record {
      write = c.joined-rights.ensures.write
          ∙ ap (λ t. t || (touches c.args.page part && part.write)) c.loop-part.invariant.write
          ∙ sym (right_more
          (λ p. p.write) c.args.page parts c.loop-part.part-index part c.loop-part-test.true
          c.part-item.is);
      exec = c.joined-rights.ensures.exec
          ∙ ap (λ t. t || (touches c.args.page part && part.exec)) c.loop-part.invariant.exec
          ∙ sym (right_more
          (λ p. p.exec) c.args.page parts c.loop-part.part-index part c.loop-part-test.true
          c.part-item.is);
    }
