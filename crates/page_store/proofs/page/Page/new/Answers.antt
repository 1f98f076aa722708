use Rattle.page_store.proofs.Pages.{zero_page-is}
use Rattle.page_store.proofs.page.Page.new.Goals as goal

pub returns : goal.returns
returns c = zero_page-is _ c.in_ok-new.ensures.ok
