use Rattle.std.proofs.Common.{length, sym, ap, ◌∙◌, subst}
use Rattle.proc_table.specs.Links.{IsLinkable, previous_in, with_link}
use Rattle.proc_table.proofs.Ways.{own_read}
use Rattle.proc_table.proofs.records.unlink.Goals as goal

pub link-requires : goal.link-requires
link-requires c =
    let own = own_read c.args.links.now.items c.args.parent c.requires.child c.index-own.ensures in
    subst (λ n. IsLinkable (length c.args.links.now.items) c.args.parent n
    c.index-own.result.now.next) (sym own.0)
    (subst (λ n. IsLinkable (length c.args.links.now.items) c.args.parent
    (previous_in c.args.links.now.items c.args.parent c.args.child) n) (sym own.1)
    c.requires.others)

pub returns-clause-items : goal.returns-clause-items
returns-clause-items c =
    let own = own_read c.args.links.now.items c.args.parent c.requires.child c.index-own.ensures in
    c.link.ensures.items
    ∙ ap (λ n. with_link c.args.links.now.items c.args.parent n c.index-own.result.now.next) own.0
    ∙ ap (with_link c.args.links.now.items c.args.parent
    (previous_in c.args.links.now.items c.args.parent c.args.child)) own.1
