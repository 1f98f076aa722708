use Rattle.std.proofs.Common.{◌∙◌, List, inl, inr, set, subst, sym}
use Rattle.dos_world.specs.declared.Access.TheVariants.{Fetch, Store}
use Rattle.page_store.specs.declared.compared.Slot.{Slot}
use Rattle.quantum_run.specs.Finding.{AreFramesOf, IsFrameOf}
use Rattle.quantum_run.specs.Knowing.{AreAmong, AreRight, FetchesAreApart, SlotsAreMarked}
use Rattle.quantum_run.specs.Knowing.{empty_slot}
use Rattle.quantum_run.proofs.Apart.{apart-hidden, apart-none, apart-shown, hidden-slot}
use Rattle.quantum_run.proofs.Apart.{marked-none}
use Rattle.quantum_run.proofs.Comparing.{keeps-found, keeps-hidden}
use Rattle.quantum_run.proofs.FoundAgain.{hidden-one, hidden-two, kept-filled}
use Rattle.quantum_run.proofs.Places.{none-found, nothing-right}
use Rattle.quantum_run.proofs.thread_memory.Running.fill_slot.Goals as goal

pub invariant_of-self-2 : goal.invariant_of-self-2
invariant_of-self-2 g c =
    let m = c.args.self.now in
    let owners = g.P.Pages.owners m.pages in
    let entries = m.space.now.entries in
    let slots = m.compared.now.slots in
    let stored = c.forget_frame.new.slots in
    let place = c.args.place in
    let slot = c.args.slot in
    let other = c.find-other.result in
    let left = set slots other empty_slot in
    let shown_left = set m.shown other empty_slot in
    record {
      reached = m.reached;
      own = m.own;
      within = m.within;
      shown_are = hidden-slot
          (λ (s : Slot). IsFrameOf m.tid owners entries Fetch s.start s.frame) m.shown
          (set shown_left place empty_slot)
          (nothing-right m.tid owners entries Fetch) (hidden-two m.shown other place) m.shown_are;
      loaded_are = m.loaded_are;
      stored_are = elim c.forget_frame.ensures as
          (λ _. AreFramesOf m.tid owners entries Store stored) [
            | inl same ↦ subst (λ (s : List Slot). AreFramesOf m.tid owners entries Store s)
                (sym same.0) m.stored_are
            | inr none ↦ none-found m.tid owners entries Store stored none
          ];
      kept = subst (λ (s : List Slot). AreAmong s (set shown_left place empty_slot))
          (sym c.find-other.ensures.slots)
          (kept-filled left shown_left place slot
          (kept-filled slots m.shown other empty_slot m.kept));
      apart = subst (λ (s : List Slot). FetchesAreApart s stored) (sym c.find-other.ensures.slots)
          (elim c.forget_frame.ensures as
          (λ _. FetchesAreApart (set left place slot) stored) [
            | inl same ↦ subst (λ (s : List Slot). FetchesAreApart (set left place slot) s)
                (sym same.0)
                (apart-shown left m.stored place slot
                (apart-hidden slots left m.stored (hidden-one slots other) m.apart) same.1)
            | inr none ↦ subst (λ (s : List Slot). FetchesAreApart (set left place slot) s)
                (sym none) (apart-none (set left place slot) 64)
          ]);
      stored_marked = elim c.forget_frame.ensures as (λ _. SlotsAreMarked stored m.stored_marks) [
        | inl same ↦ subst (λ (s : List Slot). SlotsAreMarked s m.stored_marks) (sym same.0)
            m.stored_marked
        | inr none ↦ subst (λ (s : List Slot). SlotsAreMarked s m.stored_marks) (sym none)
            (marked-none m.stored_marks 64)
      ];
    }

pub returns-then-is_same-clause-filled : goal.returns-then-is_same-clause-filled
returns-then-is_same-clause-filled g c =
    sym c.slot.ensures ∙ c.is_same.ensures c.if-is_same.true

pub returns-clause-filled : goal.returns-clause-filled
returns-clause-filled g c = c.find-other.ensures.found

pub returns-clause-right : goal.returns-clause-right
returns-clause-right g c = λ known are.
    let m = c.args.self.now in
    let slots = m.compared.now.slots in
    let other = c.find-other.result in
    let left = set slots other empty_slot in
    let blocks = m.compared.now.blocks in
    let after = c.find-other.new.self.blocks in
    let pages = g.P.Pages.pages m.pages in
    subst (λ (s : List Slot). AreRight s after pages known) (sym c.find-other.ensures.slots)
    (keeps-found left blocks after pages c.args.place c.args.slot c.find-other.ensures.none
    c.find-other.ensures.others known
    (keeps-hidden slots left blocks pages (hidden-one slots other) known are))
