use Rattle.std.proofs.Common.{Bool, List, set, subst, sym}
use Rattle.dos_world.specs.declared.Access.TheVariants.{Fetch}
use Rattle.page_store.specs.declared.compared.Slot.{Slot}
use Rattle.quantum_run.specs.Finding.{IsFrameOf}
use Rattle.quantum_run.specs.Knowing.{AreAmong, AreRight, FetchesAreApart, IsNoCode, empty_slot}
use Rattle.quantum_run.proofs.Apart.{apart-hidden, hidden-slot}
use Rattle.quantum_run.proofs.Comparing.{keeps-hidden}
use Rattle.quantum_run.proofs.FoundAgain.{hidden-one, kept-filled, none-left}
use Rattle.quantum_run.proofs.Places.{nothing-right}
use Rattle.quantum_run.proofs.thread_memory.Running.hide.Goals as goal

pub invariant_of-self-2 : goal.invariant_of-self-2
invariant_of-self-2 g c =
    let m = c.args.self.now in
    let owners = g.P.Pages.owners m.pages in
    let entries = m.space.now.entries in
    let slots = m.compared.now.slots in
    let place = c.place_of-place.result in
    let left = set slots place empty_slot in
    let shown = set m.shown place empty_slot in
    record {
      reached = m.reached;
      own = m.own;
      within = m.within;
      shown_are = hidden-slot
          (λ (s : Slot). IsFrameOf m.tid owners entries Fetch s.start s.frame) m.shown shown
          (nothing-right m.tid owners entries Fetch) (hidden-one m.shown place) m.shown_are;
      loaded_are = m.loaded_are;
      stored_are = m.stored_are;
      kept = subst (λ (s : List Slot). AreAmong s shown) (sym c.hide.ensures.slots)
          (kept-filled slots m.shown place empty_slot m.kept);
      apart = subst (λ (s : List Slot). FetchesAreApart s m.stored) (sym c.hide.ensures.slots)
          (apart-hidden slots left m.stored (hidden-one slots place) m.apart);
      stored_marked = m.stored_marked;
    }

pub returns-clause-free : goal.returns-clause-free
returns-clause-free g c =
    subst (λ (s : List Slot). IsNoCode s c.args.frame) (sym c.hide.ensures.slots)
    (none-left c.args.self.now.compared.now.slots c.place_of-place.result c.args.frame
    c.place_of-place.ensures.alone)

pub returns-clause-right : goal.returns-clause-right
returns-clause-right g c = λ known are.
    let m = c.args.self.now in
    let slots = m.compared.now.slots in
    let place = c.place_of-place.result in
    let pages = g.P.Pages.pages m.pages in
    subst (λ (s : List Slot). AreRight s c.hide.new.self.blocks pages known)
    (sym c.hide.ensures.slots)
    (subst (λ (b : List Bool). AreRight (set slots place empty_slot) b pages known)
    (sym c.hide.ensures.blocks)
    (keeps-hidden slots (set slots place empty_slot) m.compared.now.blocks pages
    (hidden-one slots place) known are))
