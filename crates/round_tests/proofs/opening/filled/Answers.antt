use Rattle.std.proofs.Common.{◌≡◌, ◌∙◌, ap, rules}
use Rattle.page_store.specs.Store.{whole}
use Rattle.page_store.proofs.Pages.{whole-zero_page}
use Rattle.round_tests.proofs.opening.filled.Goals as goal

pub fill_page-requires-clause-zero : goal.fill_page-requires-clause-zero
fill_page-requires-clause-zero g c = ap whole (search rules) ∙ whole-zero_page
