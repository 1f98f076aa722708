use Rattle.std.proofs.Common.{ℕ, ◌<◌, ◌≡◌, Ok, length, refl, rules, set, subst, sym}
use Rattle.dos_world.specs.declared.Access.TheVariants.{Fetch}
use Rattle.page_store.specs.declared.compared.Slot.{Slot}
use Rattle.quantum_run.specs.Answering.{Still}
use Rattle.quantum_run.specs.Finding.{IsFrameOf, frame_for}
use Rattle.quantum_run.proofs.FoundAgain.{kept-found}
use Rattle.quantum_run.proofs.Places.{found-again, more-found}
use Rattle.quantum_run.proofs.thread_memory.Running.show.Goals as goal

pub invariant_of-self : goal.invariant_of-self
invariant_of-self g c =
    let m = c.fill_slot.new.self in
    let owners = g.P.Pages.owners m.pages in
    let entries = m.space.now.entries in
    let place = c.slot_place-place.result in
    let slot : Slot = record { start = c.start_of.result; frame = c.args.frame } in
    let there : place < length m.shown = search rules in
    record {
      reached = m.reached;
      own = m.own;
      within = m.within;
      shown_are = more-found m.tid owners entries Fetch m.shown (set m.shown place slot) place slot
          refl
          (subst (λ (start : ℕ). IsFrameOf m.tid owners entries Fetch start c.args.frame)
          (sym c.start_of.ensures)
          (found-again m.tid owners entries Fetch c.args.address c.args.frame
          (subst (λ (s : Still). frame_for s.thread s.owners s.entries Fetch c.args.address
          ≡ Ok c.args.frame) (sym c.fill_slot.ensures.still) c.requires)))
          m.shown_are;
      loaded_are = m.loaded_are;
      stored_are = m.stored_are;
      kept = kept-found m.compared.now.slots m.shown place slot there c.fill_slot.ensures.filled
          m.kept;
      apart = m.apart;
      stored_marked = m.stored_marked;
    }
