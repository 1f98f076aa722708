use Rattle.std.proofs.Common.{rules, vec_len, ◌≡◌, ◌+◌, length, ap, ◌∙◌, sym}
use Rattle.proc_table.proofs.KeptRecords.{kept_added, last_low}
use Rattle.proc_table.proofs.records.Records.add.Goals as goal

pub add_links-requires-clause-last : goal.add_links-requires-clause-last
add_links-requires-clause-last c =
    let count : vec_len c.self.inside.records ≡ length c.self.inside.records.items = search rules in
    let number : c.len.result + 1 ≡ length c.self.inside.links.items + 1 =
    ap (λ n. n + 1) (c.len.ensures ∙ count ∙ sym c.self.invariant.count) in
    last_low c.self.invariant c.self.view_is c.args.parent c.args.kept
    c.requires.uncollected c.requires.parent
    c.requires.numbers number

pub invariant_of-self : goal.invariant_of-self
invariant_of-self c =
    let count : vec_len c.self.inside.records ≡ length c.self.inside.records.items = search rules in
    let number : c.len.result + 1 ≡ length c.self.inside.links.items + 1 =
    ap (λ n. n + 1) (c.len.ensures ∙ count ∙ sym c.self.invariant.count) in
    kept_added c.self.invariant c.self.view_is c.args.parent c.args.kept
    c.requires.uncollected c.requires.parent
    c.requires.numbers number c.in-Ok.ensures.items c.add_links.ensures.items
    c.in-Ok.ensures.capacity c.add_links.ensures.capacity
