use Rattle.std.proofs.Common.{ap, arith, subst}
use Rattle.std.proofs.lemmas.List.Elements.{All-more}
use Rattle.std.proofs.lemmas.List.Sums.{sum_by_more}
use Rattle.flat_machine.specs.Opening.{page_count}
use Rattle.group_open.specs.Laws.{IsAccepted}
use Rattle.group_open.proofs.pages.needed.Goals as goal

pub loop-image-preserved : goal.loop-image-preserved
loop-image-preserved c =
    let images = c.args.images.now in
    let image = c.image-item.result in
    record {
      counted = omega (
        arith,
        c.loop-image.invariant.counted,
        c.from-total.ensures,
        c.page_count.ensures.count,
        ap page_count c.image-item.is,
        sum_by_more page_count images c.loop-image.image-index image c.loop-image-test.true,
      );
      accepted = All-more IsAccepted images c.loop-image.image-index image c.loop-image-test.true
          c.loop-image.invariant.accepted
          (subst IsAccepted c.image-item.is c.page_count.ensures.accepted);
      few = omega arith;
    }
