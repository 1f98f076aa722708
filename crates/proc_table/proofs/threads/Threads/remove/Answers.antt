use Rattle.proc_table.proofs.Shown.{at_in, kept_remove, lives_in, removed}
use Rattle.proc_table.proofs.threads.Threads.remove.Goals as goal

pub place_of-place-requires-clause-live : goal.place_of-place-requires-clause-live
place_of-place-requires-clause-live c =
    lives_in c.self.view_is c.self.invariant c.args.tid c.deref.ensures.value c.requires

pub invariant_of-self : goal.invariant_of-self
invariant_of-self c = kept_remove c.self.view_is c.self.invariant
    (at_in c.deref.ensures.value c.place_of-place.ensures) c.remove.ensures.items
    c.remove.ensures.capacity

pub returns : goal.returns
returns c = removed c.self.view_is c.self.invariant
    (at_in c.deref.ensures.value c.place_of-place.ensures) c.remove.ensures.items
