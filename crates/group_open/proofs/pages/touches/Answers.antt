use Rattle.group_open.proofs.PageLaws.{touches_below, touches_from}
use Rattle.group_open.proofs.pages.touches.Goals as goal

pub returns-then-first_page-page : goal.returns-then-first_page-page
returns-then-first_page-page c =
    touches_from c.args.part.now c.args.page c.first_page.result c.last_page.result
    c.first_page.ensures c.last_page.ensures c.if-first_page-page.true

pub returns-else-first_page-page : goal.returns-else-first_page-page
returns-else-first_page-page c =
    touches_below c.args.part.now c.args.page c.first_page.result c.first_page.ensures
    c.if-first_page-page.false
