use Rattle.page_store.proofs.Pages.{whole-same}
use Rattle.page_store.proofs.page.Page.bytes.Goals as goal

pub returns-clause-value : goal.returns-clause-value
returns-clause-value c = cc (whole-same c.self.inside.bytes.value c.self.invariant)
