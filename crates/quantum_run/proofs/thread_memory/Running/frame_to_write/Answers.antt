use Rattle.std.proofs.Common.{rules, ◌<◌, ◌∙◌, length, sym, arith, refl}
use Rattle.dos_world.specs.declared.Access.TheVariants.{Store}
use Rattle.page_store.specs.declared.compared.Slot.{Slot}
use Rattle.quantum_run.proofs.Places.{aligned-found, sized, writes-found}
use Rattle.quantum_run.proofs.thread_memory.Running.frame_to_write.Goals as goal

pub returns-then-slot-aligned_start : goal.returns-then-slot-aligned_start
returns-then-slot-aligned_start g c =
    let m = c.args.self.now in
    let owners = g.P.Pages.owners m.pages in
    let entries = m.space.now.entries in
    let address = c.args.address in
    let empty : Slot = record { start = 0; frame = 0 } in
    let small : c.slot_place.result < length m.stored = search rules in
    let start = c.if-slot-aligned_start.true ∙ c.aligned_start.ensures in
    let found = aligned-found m.tid owners entries Store _ _ address c.args.size
    (m.stored_are c.slot_place.result empty small) c.ranges.address.fits start in
    let aligned = found.0 in
    record {
      value = sym (sized m.tid owners entries c.args.access c.args.size address aligned
          ∙ writes-found m.tid owners entries c.args.access address _ c.requires found.1);
      aligned = aligned;
      home = m.reached Store address _ found.1;
      own = m.own Store address _ tt found.1;
      free = m.apart c.slot_place.result empty small
          (omega (arith, start, aligned, c.ranges.address.fits));
      right = λ known are. are;
      name = refl;
      still = refl;
      pages = refl;
    }
