use Rattle.group_open.proofs.PageLaws.{least-parts_more, next_is, next_within}
use Rattle.group_open.proofs.pages.next_page.Goals as goal

pub loop-part-preserved : goal.loop-part-preserved
loop-part-preserved c =
    let more = least-parts_more c.args.from c.parts-part-items.result.now c.loop-part.part-index
    c.part-item.result c.loop-part-test.true c.part-item.is in
    cc

pub returns-clause-page : goal.returns-clause-page
returns-clause-page c = next_is c.args.image.now c.args.from c.loop-part.next
    c.parts-part-items.result.now c.loop-part.part-index c.parts-part-items.ensures.parts
    c.loop-part-test.false c.loop-part.invariant

pub returns-clause-within : goal.returns-clause-within
returns-clause-within c =
    next_within c.args.image.now c.args.from c.loop-part.next c.parts-part-items.ensures.sound
    (next_is c.args.image.now c.args.from c.loop-part.next c.parts-part-items.result.now
    c.loop-part.part-index c.parts-part-items.ensures.parts c.loop-part-test.false
    c.loop-part.invariant)
