use Rattle.std.proofs.Common.{List, replicate, sym, subst}
use Rattle.page_store.specs.Compared.{SlotsArePlaced}
use Rattle.page_store.specs.declared.compared.Slot.{Slot}
use Rattle.page_store.proofs.Forgotten.{right-forgotten}
use Rattle.page_store.proofs.Placed.{placed-none}
use Rattle.page_store.proofs.compared.Compared.nothing.Goals as goal

pub invariant_of-result : goal.invariant_of-result
invariant_of-result c = record {
  placed = subst (λ (slots : List Slot). SlotsArePlaced slots (replicate 256 0))
      (sym c.nothing_found.ensures) (placed-none 64 (replicate 256 0));
}

pub returns-clause-right : goal.returns-clause-right
returns-clause-right c = right-forgotten c.nothing_found.result _ c.nothing_found.ensures
