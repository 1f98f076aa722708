use Rattle.std.proofs.Common.{◌+◌, ◌*◌, ◌/◌, ◌%◌, ◌<◌, ◌≡◌, ◌∙◌, ap, arith, length, refl, rules}
use Rattle.std.proofs.Common.{Bool, List, slice_get, subst, sym}
use Rattle.code_pages.specs.Lines.{bytes_of_pages}
use Rattle.page_store.specs.declared.compared.Slot.{Slot}
use Rattle.quantum_run.specs.Knowing.{AreRight, IsChecked, block_place}
use Rattle.quantum_run.proofs.Comparing.{right-checked, slot-here}
use Rattle.quantum_run.proofs.FoundAgain.{shown-kept}
use Rattle.quantum_run.proofs.thread_memory.Running.compare.Goals as goal

pub returns-then-is_compared-clause-compared : goal.returns-then-is_compared-clause-compared
returns-then-is_compared-clause-compared g c = λ _.
    let blocks = c.args.self.now.compared.now.blocks in
    let at = 16 * c.slot_place-slot.result + c.args.address % 4096 / 256 in
    let is = c.slot_place-slot.ensures.place in
    let place : at ≡ block_place c.args.address = omega (arith, is) in
    record {
      found = c.requires.found;
      is = ap (λ k. slice_get blocks k) (sym place) ∙ c.is_compared.ensures c.if-is_compared.true;
    }

pub returns-clause-compared : goal.returns-clause-compared
returns-clause-compared g c = λ _.
    let at = 16 * c.slot_place-slot.result + c.args.address % 4096 / 256 in
    let is = c.slot_place-slot.ensures.place in
    let place : at ≡ block_place c.args.address = omega (arith, is) in
    record {
      found = c.requires.found;
      is = ap (λ k. slice_get c.mark.new.self.blocks k) (sym place) ∙ c.mark.ensures.is;
    }

pub returns-clause-right : goal.returns-clause-right
returns-clause-right g c = λ are.
    let m = c.args.self.now in
    let pages = g.P.Pages.pages m.pages in
    let address = c.args.address in
    let slot = c.slot_place-slot.result in
    let is = c.slot_place-slot.ensures.place in
    let small : slot < length m.shown = search rules in
    let none : Slot = record { start = 0; frame = 0 } in
    let place : 16 * slot + address % 4096 / 256 ≡ block_place address = omega (arith, is) in
    let same = shown-kept m.compared.now.slots m.shown address m.kept c.ranges.address.fits
    c.requires.found in
    let old = c.args.code.now in
    let new = c.check.new.code in
    let block = address % 4096 / 256 in
    subst (λ (s : List Slot). AreRight s c.mark.new.self.blocks pages (bytes_of_pages new))
    (sym c.mark.ensures.slots)
    (subst (λ (b : List Bool). AreRight m.compared.now.slots b pages (bytes_of_pages new))
    (sym c.mark.ensures.blocks)
    (right-checked m.compared.now.slots m.compared.now.blocks pages old new address block
    c.code_place.result (16 * slot + block) c.ranges.address.fits
    (ap (λ (s : Slot). s.start) (sym same) ∙ c.requires.found)
    refl c.code_place.ensures.place place c.check.ensures.known
    (subst (λ (s : Slot). IsChecked pages s.frame old c.code_place.result block new)
    (slot-here m.shown address slot none is small ∙ same)
    (c.check.ensures.checked c.if-not-check.false)) are))
