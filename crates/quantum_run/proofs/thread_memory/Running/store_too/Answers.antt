use Rattle.std.proofs.Common.{rules, ◌/◌, ◌%◌, ◌∙◌, List, ap, set, subst, sym, true}
use Rattle.dos_world.specs.Reach.{is_foreign}
use Rattle.dos_world.specs.declared.Access.TheVariants.{Store}
use Rattle.page_store.specs.declared.compared.Slot.{Slot}
use Rattle.quantum_run.specs.Finding.{page_start}
use Rattle.quantum_run.specs.Knowing.{SlotsAreMarked}
use Rattle.quantum_run.proofs.Apart.{apart-stored, marked-more}
use Rattle.quantum_run.proofs.Places.{entry-found, found-again, more-found}
use Rattle.quantum_run.proofs.thread_memory.Running.store_too.Goals as goal

pub invariant_of-self-2 : goal.invariant_of-self-2
invariant_of-self-2 g c =
    let m = c.args.self.now in
    let owners = g.P.Pages.owners m.pages in
    let entries = m.space.now.entries in
    let new = c.keep_frame.new.slots in
    let place = c.args.address / 4096 % 64 in
    let slot : Slot = record { start = page_start c.args.address; frame = c.args.entry.frame } in
    record {
      reached = m.reached;
      own = m.own;
      within = m.within;
      shown_are = m.shown_are;
      loaded_are = m.loaded_are;
      stored_are = more-found m.tid owners entries Store m.stored new place slot
          c.keep_frame.ensures
          (found-again m.tid owners entries Store c.args.address c.args.entry.frame
          (entry-found m.tid owners entries Store c.args.address c.args.entry c.requires
          (search rules) (ap (is_foreign m.tid Store) (sym c.owner.ensures)
          ∙ sym c.is_foreign.ensures ∙ c.if-is_foreign.false)))
          m.stored_are;
      apart = apart-stored m.compared.now.slots m.stored new place slot c.keep_frame.ensures m.apart
          (c.has.ensures c.if-has.false);
      kept = m.kept;
      stored_marked = subst (λ (slots : List Slot). SlotsAreMarked slots
          (set m.stored_marks c.mark_place.result true)) (sym c.keep_frame.ensures)
          (marked-more m.stored m.stored_marks place c.mark_place.result slot
          (sym c.mark_place.ensures.place)
          (search rules) m.stored_marked);
    }
