use Rattle.std.proofs.Common.{◌∙◌, arith}
use Rattle.proc_table.specs.Links.{first_to, next_to, with_next}
use Rattle.proc_table.proofs.Moved.{changed_is}
use Rattle.proc_table.proofs.Ways.{head_is, link_is, on}
use Rattle.proc_table.proofs.records.set_next.Goals as goal

pub returns-then-child-eq0-clause-items : goal.returns-then-child-eq0-clause-items
unfolding with_next
returns-then-child-eq0-clause-items c =
    changed_is (first_to c.args.next) c.args.links.now.items c.args.parent c.index_mut.result.now
    c.requires.parent.0 c.requires.parent.1 c.index_mut.ensures.value
    ∙ head_is on c.args.links.now.items c.args.parent c.args.child c.args.next
    c.if-child-eq0.true

pub returns-else-child-eq0-clause-items : goal.returns-else-child-eq0-clause-items
unfolding with_next
returns-else-child-eq0-clause-items c =
    changed_is (next_to c.args.next) c.args.links.now.items c.args.child
    c.index_mut-else-child-eq0.result.now (omega (arith, c.if-child-eq0.false)) c.requires.child
    c.index_mut-else-child-eq0.ensures.value
    ∙ link_is on c.args.links.now.items c.args.parent c.args.child c.args.next
    c.if-child-eq0.false
