use Rattle.std.proofs.Common.{ℕ, ◌%◌, ◌≡◌, sym, ap, ◌∙◌, subst, List, Option, true}
use Rattle.dos_world.specs.declared.Owner.{Owner}
use Rattle.dos_world.specs.declared.Access.TheVariants.{Fetch, Load, Store}
use Rattle.dos_world.specs.Reach.{bytes_of, width}
use Rattle.quantum_run.specs.Finding.{AreFramesOf, frame_for}
use Rattle.quantum_run.specs.Knowing.{KeepsRight}
use Rattle.quantum_run.specs.Pages.{is_here, AreWithin}
use Rattle.quantum_run.proofs.Comparing.{keeps-written}
use Rattle.quantum_run.proofs.Overlay.{here-set}
use Rattle.quantum_run.proofs.Places.{aligned-offset, aligned-within, either-way}
use Rattle.quantum_run.proofs.thread_memory.Running.write.Goals as goal

pub write-requires-clause-within : goal.write-requires-clause-within
write-requires-clause-within g c = aligned-within c.args.address c.args.size c.requires.aligned

pub write-requires-clause-aligned : goal.write-requires-clause-aligned
write-requires-clause-aligned g c = aligned-offset c.args.address c.args.size c.requires.aligned

pub returns-clause-right : goal.returns-clause-right
returns-clause-right g c =
    let m = c.args.self.now in
    let pages = g.P.Pages.pages m.pages in
    let new = g.P.Pages.pages c.write.new.self in
    either-way {A = KeepsRight m.compared.now.slots m.compared.now.blocks pages m.compared.now.slots
    m.compared.now.blocks new} c.write.result (λ did. keeps-written m.compared.now.slots
    m.compared.now.blocks pages new c.args.frame (c.args.address % 4096)
    (bytes_of (width c.args.size) c.args.value) (c.write.ensures.pages did) c.requires.free)
    (λ didnt known are. subst (λ (ps : List (Option (List ℕ))). KeepsRight m.compared.now.slots
    m.compared.now.blocks pages m.compared.now.slots m.compared.now.blocks ps)
    (sym (c.write.ensures.same didnt).1) (λ known are. are) known are)

pub invariant_of-self : goal.invariant_of-self
invariant_of-self g c =
    let e = c.write.ensures.owners in
    let t = c.args.self.now.tid in
    let entries = c.args.self.now.space.now.entries in
    let pages = g.P.Pages.pages c.args.self.now.pages in
    let new = g.P.Pages.pages c.write.new.self in
    record {
      reached = λ access address frame h.
          let here = c.args.self.now.reached access address frame
          (ap (λ (os : List Owner). frame_for t os entries access address) (sym e) ∙ h) in
          either-way {A = is_here new frame ≡ true} c.write.result
          (λ did. let w = c.write.ensures.pages did in
          subst (λ (ps : List (Option (List ℕ))). is_here ps frame ≡ true) (sym w.pages)
          (here-set pages c.args.frame w.after frame here))
          (λ didnt. subst (λ (ps : List (Option (List ℕ))). is_here ps frame ≡ true)
          (sym (c.write.ensures.same didnt).1) here);
      own = λ access address frame writes h.
          c.write.ensures.own frame
          (c.args.self.now.own access address frame writes
          (ap (λ (os : List Owner). frame_for t os entries access address) (sym e) ∙ h));
      within = subst (λ (os : List Owner). AreWithin os entries) (sym e) c.args.self.now.within;
      shown_are = subst (λ
          (os : List Owner). AreFramesOf t os entries Fetch c.args.self.now.shown)
          (sym e) c.args.self.now.shown_are;
      loaded_are = subst (λ (os : List Owner). AreFramesOf t os entries Load c.args.self.now.loaded)
          (sym e) c.args.self.now.loaded_are;
      stored_are = subst (λ
          (os : List Owner). AreFramesOf t os entries Store c.args.self.now.stored)
          (sym e) c.args.self.now.stored_are;
      apart = c.args.self.now.apart;
      kept = c.args.self.now.kept;
      stored_marked = c.args.self.now.stored_marked;
    }
