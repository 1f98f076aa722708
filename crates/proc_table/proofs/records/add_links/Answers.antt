use Rattle.std.proofs.Common.{◌≡◌, List, [], ◌∷◌, ◌++◌, length, sym, ap, ◌∙◌, subst}
use Rattle.proc_table.specs.declared.record.Links.{Links}
use Rattle.proc_table.specs.Links.{IsLinkable, no_links, previous_in, with_child_linked, with_link}
use Rattle.proc_table.proofs.Added.{first_linkable, second_linkable}
use Rattle.proc_table.proofs.records.add_links.Goals as goal

pub link-requires : goal.link-requires
link-requires c =
    let last : c.last_child-last.result ≡ previous_in c.args.links.now.items c.args.parent 65536 =
    c.last_child-last.ensures
    ∙ ap (λ (L : List Links). previous_in L c.args.parent 65536) c.deref.ensures.value in
    subst (λ n. IsLinkable (length c.push_unlinked.new.links.items) c.args.parent n c.args.number)
    (sym last)
    (first_linkable c.args.links.now.items c.args.parent c.args.number c.requires.number
    c.requires.parent c.requires.few c.requires.last c.push_unlinked.new.links.items
    c.push_unlinked.ensures.items)

pub link-requires-2 : goal.link-requires-2
link-requires-2 c =
    let last : c.last_child-last.result ≡ previous_in c.args.links.now.items c.args.parent 65536 =
    c.last_child-last.ensures
    ∙ ap (λ (L : List Links). previous_in L c.args.parent 65536) c.deref.ensures.value in
    second_linkable c.args.links.now.items c.args.parent c.args.number c.requires.number
    c.requires.parent c.requires.few c.requires.last c.link.new.links.items
    (c.link.ensures.items
    ∙ ap (λ (L : List Links).
    with_link L c.args.parent c.last_child-last.result c.args.number)
    c.push_unlinked.ensures.items
    ∙ ap (λ n. with_link (c.args.links.now.items ++ no_links ∷ []) c.args.parent n c.args.number)
    last)

pub returns-clause-items : goal.returns-clause-items
unfolding with_child_linked
returns-clause-items c =
    let last : c.last_child-last.result ≡ previous_in c.args.links.now.items c.args.parent 65536 =
    c.last_child-last.ensures
    ∙ ap (λ (L : List Links). previous_in L c.args.parent 65536) c.deref.ensures.value in
    c.link-2.ensures.items
    ∙ ap (λ (L : List Links). with_link L c.args.parent c.args.number 65536)
    (c.link.ensures.items
    ∙ ap (λ (L : List Links).
    with_link L c.args.parent c.last_child-last.result c.args.number)
    c.push_unlinked.ensures.items
    ∙ ap (λ n. with_link (c.args.links.now.items ++ no_links ∷ []) c.args.parent n c.args.number)
    last)
