use Rattle.std.proofs.Common.{◌/◌, ◌%◌}
use Rattle.dos_world.specs.declared.Access.TheVariants.{Load}
use Rattle.quantum_run.specs.Finding.{page_start}
use Rattle.quantum_run.proofs.Places.{found-again, more-found}
use Rattle.quantum_run.proofs.thread_memory.Running.load_again.Goals as goal

pub invariant_of-self : goal.invariant_of-self
invariant_of-self g c =
    let m = c.args.self.now in
    let owners = g.P.Pages.owners m.pages in
    let entries = m.space.now.entries in
    record {
      reached = m.reached;
      own = m.own;
      within = m.within;
      shown_are = m.shown_are;
      loaded_are = more-found m.tid owners entries Load m.loaded c.keep_frame.new.slots
          (c.args.address / 4096 % 64)
          (record { start = page_start c.args.address; frame = c.args.frame }) c.keep_frame.ensures
          (found-again m.tid owners entries Load c.args.address c.args.frame c.requires)
          m.loaded_are;
      stored_are = m.stored_are;
      apart = m.apart;
      kept = m.kept;
      stored_marked = m.stored_marked;
    }
