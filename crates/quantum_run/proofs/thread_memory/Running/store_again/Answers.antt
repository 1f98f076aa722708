use Rattle.std.proofs.Common.{◌≡◌, ◌<◌, ◌/◌, ◌%◌, Bool, List, Ok, length, rules, set, subst}
use Rattle.std.proofs.Common.{sym, true}
use Rattle.dos_world.specs.declared.Access.TheVariants.{Store}
use Rattle.page_store.specs.declared.compared.Slot.{Slot}
use Rattle.quantum_run.specs.Finding.{frame_for, page_start}
use Rattle.quantum_run.specs.Knowing.{SlotsAreMarked}
use Rattle.quantum_run.specs.Answering.{Still}
use Rattle.quantum_run.proofs.Apart.{apart-stored, marked-more}
use Rattle.quantum_run.proofs.Places.{more-found, stores-again}
use Rattle.quantum_run.proofs.thread_memory.Running.store_again.Goals as goal

pub invariant_of-self : goal.invariant_of-self
invariant_of-self g c =
    let m = c.hide.new.self in
    let owners = g.P.Pages.owners m.pages in
    let entries = m.space.now.entries in
    let new = c.keep_frame.new.slots in
    let place = c.args.address / 4096 % 64 in
    let slot : Slot = record { start = page_start c.args.address; frame = c.args.frame } in
    record {
      reached = m.reached;
      own = m.own;
      within = m.within;
      shown_are = m.shown_are;
      loaded_are = m.loaded_are;
      stored_are = more-found m.tid owners entries Store m.stored new place slot
          c.keep_frame.ensures
          (stores-again m.tid owners entries c.args.access c.args.address c.args.frame
          c.requires.writing
          (subst (λ (s : Still). frame_for s.thread s.owners s.entries c.args.access
          c.args.address ≡ Ok c.args.frame) (sym c.hide.ensures.still) c.requires.frame))
          m.stored_are;
      apart = apart-stored m.compared.now.slots m.stored new place slot c.keep_frame.ensures m.apart
          c.hide.ensures.free;
      kept = m.kept;
      stored_marked = subst (λ (slots : List Slot). SlotsAreMarked slots
          (set m.stored_marks c.mark_place.result true)) (sym c.keep_frame.ensures)
          (marked-more m.stored m.stored_marks place c.mark_place.result slot
          (sym c.mark_place.ensures.place)
          (subst (λ (marks : List Bool). c.mark_place.result < length marks)
          (sym c.hide.ensures.same.1) (search rules)) m.stored_marked);
    }
