use Rattle.std.proofs.Common.{ap, refl, sym, subst}
use Rattle.code_pages.specs.Lines.{bytes_of_pages}
use Rattle.page_store.specs.Store.{Store}
use Rattle.quantum_run.specs.ThreadRuns.{AreMapped}
use Rattle.quantum_run.proofs.Comparing.{right-same}
use Rattle.quantum_run.proofs.run.run_until_address.Goals as goal

pub run_in_place-stop-requires-clause-mapped : goal.run_in_place-stop-requires-clause-mapped
run_in_place-stop-requires-clause-mapped c =
    subst (λ (s : Store). AreMapped s c.args.space.now.entries) (sym c.take_known.ensures.same)
    c.requires.mapped

pub run_in_place-requires-clause-mapped : goal.run_in_place-requires-clause-mapped
run_in_place-requires-clause-mapped c =
    subst (λ (s : Store). AreMapped s c.args.space.now.entries) (sym c.take_known.ensures.same)
    c.requires.mapped

pub run_in_place-stop-requires-clause-right : goal.run_in_place-stop-requires-clause-right
run_in_place-stop-requires-clause-right c =
    let same = c.deref_mut-in-Some.ensures.value in
    right-same _ _ _ _ _ _ _ _ (ap (λ x. x.slots) same) (ap (λ x. x.blocks) same) refl
    (ap bytes_of_pages c.deref_mut.ensures.value) c.in-Some.ensures.right

pub run_in_place-requires-clause-right : goal.run_in_place-requires-clause-right
run_in_place-requires-clause-right c = c.nothing-compared.ensures.right _ _

pub keep_known-requires : goal.keep_known-requires
keep_known-requires c = c.run_in_place-stop.ensures.right
