use Rattle.std.proofs.Common.{subst, sym}
use Rattle.page_store.specs.Compared.{AreFewer}
use Rattle.page_store.specs.declared.compared.Compared.{Compared}
use Rattle.page_store.proofs.Forgotten.{right-unmarked}
use Rattle.store_tests.proofs.compared.found.Goals as goal

pub returns : goal.returns
returns c =
    let old = c.nothing-compared.result.blocks in
    right-unmarked _ old _ c.nothing-compared.ensures.unmarked
    (subst (λ (x : Compared). AreFewer old x.blocks) (sym c.in_ok-new.ensures.ok)
    c.find.ensures.others)
