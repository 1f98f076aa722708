use Rattle.proc_table.proofs.Shown.{at_in, lives_in, reads}
use Rattle.proc_table.proofs.threads.Threads.get.Goals as goal

pub place_of-requires-clause-live : goal.place_of-requires-clause-live
place_of-requires-clause-live c =
    lives_in c.self.view_is c.self.invariant c.args.tid c.deref.ensures.value c.requires

pub returns : goal.returns
returns c =
    reads c.self.view_is c.self.invariant (at_in c.deref.ensures.value c.place_of.ensures)
    c.index.ensures
