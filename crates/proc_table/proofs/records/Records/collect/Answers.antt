use Rattle.proc_table.proofs.KeptRecords.{kept_collected, linkable_others}
use Rattle.proc_table.proofs.records.Records.collect.Goals as goal

pub unlink-requires-clause-others : goal.unlink-requires-clause-others
unlink-requires-clause-others c = linkable_others c.self.invariant c.self.view_is
    c.args.parent c.args.child c.requires

pub invariant_of-self : goal.invariant_of-self
invariant_of-self c = kept_collected c.self.invariant c.self.view_is
    c.args.parent c.args.child c.requires c.args.status c.set_kept.ensures.items
    c.unlink.ensures.items c.set_kept.ensures.capacity c.unlink.ensures.capacity
