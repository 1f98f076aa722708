use Rattle.std.proofs.Common.{arith, sym}
use Rattle.group_open.proofs.PageLaws.{least-run, least-run_past}
use Rattle.group_open.proofs.pages.touched_from.Goals as goal

pub returns-then-page-last_page : goal.returns-then-page-last_page
returns-then-page-last_page c =
    sym (least-run c.args.from _ _ c.max-page.result (omega (arith, c.max-page.ensures))
    (omega arith))

pub returns-else-page-last_page : goal.returns-else-page-last_page
returns-else-page-last_page c = sym (least-run_past c.args.from _ _ (omega arith))
