use Rattle.std.proofs.Common.{◌∙◌, arith}
use Rattle.proc_table.specs.Links.{last_to, previous_to, with_previous}
use Rattle.proc_table.proofs.Moved.{changed_is}
use Rattle.proc_table.proofs.Ways.{back, head_is, link_is}
use Rattle.proc_table.proofs.records.set_previous.Goals as goal

pub returns-then-child-eq-NO_MORE-clause-items : goal.returns-then-child-eq-NO_MORE-clause-items
unfolding with_previous
returns-then-child-eq-NO_MORE-clause-items c =
    changed_is (last_to c.args.previous) c.args.links.now.items c.args.parent
    c.index_mut.result.now c.requires.parent.0 c.requires.parent.1 c.index_mut.ensures.value
    ∙ head_is back c.args.links.now.items c.args.parent c.args.child c.args.previous
    c.if-child-eq-NO_MORE.true

pub returns-else-child-eq-NO_MORE-clause-items : goal.returns-else-child-eq-NO_MORE-clause-items
unfolding with_previous
returns-else-child-eq-NO_MORE-clause-items c =
    changed_is (previous_to c.args.previous) c.args.links.now.items c.args.child
    c.index_mut-else-child-eq-NO_MORE.result.now c.requires.child.0
    (c.requires.within (omega (arith, c.if-child-eq-NO_MORE.false, c.requires.child.1)))
    c.index_mut-else-child-eq-NO_MORE.ensures.value
    ∙ link_is back c.args.links.now.items c.args.parent c.args.child c.args.previous
    c.if-child-eq-NO_MORE.false
