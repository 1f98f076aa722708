use Rattle.std.proofs.Common.{rules, ◌<◌, ◌∙◌, length, refl, sym}
use Rattle.dos_world.specs.declared.Access.TheVariants.{Load}
use Rattle.quantum_run.proofs.Places.{aligned-found, sized}
use Rattle.quantum_run.proofs.thread_memory.Running.frame_to_load.Goals as goal

pub returns-then-slot-aligned_start : goal.returns-then-slot-aligned_start
returns-then-slot-aligned_start g c =
    let m = c.args.self.now in
    let owners = g.P.Pages.owners m.pages in
    let small : c.slot_place.result < length m.loaded = search rules in
    let found = aligned-found m.tid owners m.space.now.entries Load _ _ c.args.address c.args.size
    (m.loaded_are c.slot_place.result (record { start = 0; frame = 0 }) small)
    c.ranges.address.fits (c.if-slot-aligned_start.true ∙ c.aligned_start.ensures) in
    record {
      value = sym (sized m.tid owners m.space.now.entries Load c.args.size c.args.address found.0
          ∙ found.1);
      aligned = found.0;
      home = m.reached Load c.args.address _ found.1;
      still = refl;
      pages = refl;
      same = (refl, refl);
    }
