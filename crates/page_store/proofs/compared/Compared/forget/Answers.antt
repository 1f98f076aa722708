use Rattle.std.proofs.Common.{List, sym, subst}
use Rattle.page_store.specs.Compared.{SlotsArePlaced}
use Rattle.page_store.specs.declared.compared.Slot.{Slot}
use Rattle.page_store.proofs.Forgotten.{right-forgotten}
use Rattle.page_store.proofs.Placed.{placed-none}
use Rattle.page_store.proofs.compared.Compared.forget.Goals as goal

pub invariant_of-self : goal.invariant_of-self
invariant_of-self c = record {
  placed = subst (λ (slots : List Slot). SlotsArePlaced slots c.args.self.now.places)
      (sym c.nothing_found-self.ensures) (placed-none 64 c.args.self.now.places);
}

pub returns-clause-right : goal.returns-clause-right
returns-clause-right c =
    right-forgotten c.nothing_found-self.result c.args.self.now.blocks c.nothing_found-self.ensures
