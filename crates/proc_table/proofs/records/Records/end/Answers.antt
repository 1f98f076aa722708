use Rattle.std.proofs.Common.{◌∙◌}
use Rattle.proc_table.proofs.KeptRecords.{ended_walkable, given_links, kept_ended}
use Rattle.proc_table.proofs.records.Records.end.Goals as goal

pub orphan_all-requires : goal.orphan_all-requires
orphan_all-requires c = ended_walkable c.self.invariant c.self.view_is c.args.pid c.args.status
    c.requires c.set_kept.ensures.items c.deref.ensures.value

pub clear_children-requires : goal.clear_children-requires
clear_children-requires c = given_links c.self.invariant c.self.view_is c.args.pid c.args.status
    c.requires c.set_kept.ensures.items

pub invariant_of-self : goal.invariant_of-self
invariant_of-self c = kept_ended c.self.invariant c.self.view_is c.args.pid c.args.status
    c.requires c.set_kept.ensures.items c.orphan_all.ensures.items c.clear_children.ensures.items
    (c.orphan_all.ensures.capacity ∙ c.set_kept.ensures.capacity)
    c.clear_children.ensures.capacity
