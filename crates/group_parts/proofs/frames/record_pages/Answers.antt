use Rattle.std.proofs.Common.{◌∙◌, ap, arith, length, None}
use Rattle.std.proofs.lemmas.List.{length-set}
use Rattle.group_parts.proofs.Records.{frame_more, is_home, rest_home}
use Rattle.group_parts.proofs.frames.record_pages.Goals as goal

pub take_page-page-requires-clause-home : goal.take_page-page-requires-clause-home
take_page-page-requires-clause-home c = is_home c.loop-frame.pages.items c.loop-frame.frame
    c.loop-frame.invariant.home
    (omega (arith, c.loop-frame.invariant.each, c.loop-frame-test.true))

pub loop-frame-preserved : goal.loop-frame-preserved
loop-frame-preserved c = record {
  so_far = frame_more c.loop-frame.pages.items c.args.owners.now c.loop-frame.frame
      c.take_page-page.result _ c.loop-frame.records.items c.take_page-page.ensures.page
      c.loop-frame-test.true c.take_page-page.ensures.others c.in_ok-push.ensures.items
      c.loop-frame.invariant.so_far;
  home = rest_home c.loop-frame.pages.items c.loop-frame.frame c.take_page-page.ensures.others
      c.loop-frame.invariant.home;
  each = ap length c.take_page-page.ensures.others
      ∙ length-set c.loop-frame.pages.items c.loop-frame.frame None ∙ c.loop-frame.invariant.each;
}
