use Rattle.std.proofs.Common.{refl}
use Rattle.page_store.proofs.Pages.{zero_page-is}
use Rattle.page_store.proofs.page.Page.clear.Goals as goal

pub returns : goal.returns
returns c = zero_page-is _ refl
