use Rattle.dos_world.specs.declared.Access.TheVariants.{Fetch, Load, Store}
use Rattle.std.proofs.Common.{List, false, replicate, sym, subst}
use Rattle.page_store.specs.declared.compared.Slot.{Slot}
use Rattle.quantum_run.specs.Knowing.{AreAmong, SlotsAreMarked, FetchesAreApart}
use Rattle.quantum_run.proofs.Apart.{apart-none, marked-none}
use Rattle.quantum_run.proofs.FoundAgain.{kept-none}
use Rattle.quantum_run.proofs.Places.{none-found}
use Rattle.quantum_run.proofs.thread_memory.Running.new.Goals as goal

pub invariant_of-result-clause-shown_are : goal.invariant_of-result-clause-shown_are
invariant_of-result-clause-shown_are g c =
    none-found c.args.tid
    (g.P.Pages.owners c.args.pages) c.args.space.now.entries Fetch c.nothing_found.result
    c.nothing_found.ensures

pub invariant_of-result-clause-loaded_are : goal.invariant_of-result-clause-loaded_are
invariant_of-result-clause-loaded_are g c =
    none-found c.args.tid
    (g.P.Pages.owners c.args.pages) c.args.space.now.entries Load c.nothing_found-2.result
    c.nothing_found-2.ensures

pub invariant_of-result-clause-stored_are : goal.invariant_of-result-clause-stored_are
invariant_of-result-clause-stored_are g c =
    none-found c.args.tid
    (g.P.Pages.owners c.args.pages) c.args.space.now.entries Store c.nothing_found-3.result
    c.nothing_found-3.ensures

pub invariant_of-result-clause-kept : goal.invariant_of-result-clause-kept
invariant_of-result-clause-kept g c =
    subst (λ (slots : List Slot). AreAmong c.args.compared.now.slots slots)
    (sym c.nothing_found.ensures) (kept-none c.args.compared.now.slots 64)

pub invariant_of-result-clause-apart : goal.invariant_of-result-clause-apart
invariant_of-result-clause-apart g c =
    subst (λ (slots : List Slot). FetchesAreApart c.args.compared.now.slots slots)
    (sym c.nothing_found-3.ensures) (apart-none c.args.compared.now.slots 64)

pub invariant_of-result-clause-stored_marked : goal.invariant_of-result-clause-stored_marked
invariant_of-result-clause-stored_marked g c =
    subst (λ (slots : List Slot). SlotsAreMarked slots (replicate 64 false))
    (sym c.nothing_found-3.ensures) (marked-none (replicate 64 false) 64)
