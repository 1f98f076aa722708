use Rattle.std.proofs.Common.{◌≡◌, ℕ, ◌<◌, List, length, sym, ap, ◌∙◌, arith}
use Rattle.proc_table.specs.declared.record.Links.{Links}
use Rattle.proc_table.specs.Links.{with_next, with_previous}
use Rattle.proc_table.proofs.Ways.{leading_length, on}
use Rattle.proc_table.proofs.Family.{link_is, no_link}
use Rattle.proc_table.proofs.records.link.Goals as goal

pub returns-then-parent-eq0-clause-items : goal.returns-then-parent-eq0-clause-items
returns-then-parent-eq0-clause-items c = sym (no_link c.args.links.now.items c.args.parent
    c.args.before c.args.after c.if-parent-eq0.true)

-- the way on keeps the length
same_length : {new : List Links} (L : List Links) (p a b : ℕ) → new ≡ with_next L p a b
    → length new ≡ length L
unfolding with_next
same_length L p a b e = ap (λ (M : List Links). length M) e ∙ leading_length on L p a b

pub set_previous-requires-clause-parent : goal.set_previous-requires-clause-parent
set_previous-requires-clause-parent c =
    let same = same_length c.args.links.now.items c.args.parent c.args.before c.args.after
    c.set_next.ensures.items in
    (omega (arith, c.if-parent-eq0.false), omega (arith, same, c.requires.parent_within))

pub set_previous-requires-clause-within : goal.set_previous-requires-clause-within
set_previous-requires-clause-within c =
    let same = same_length c.args.links.now.items c.args.parent c.args.before c.args.after
    c.set_next.ensures.items in
    let some : 0 < c.args.parent = omega (arith, c.if-parent-eq0.false) in
    λ low. omega (arith, same, c.requires.after_within some low)

pub returns-clause-items : goal.returns-clause-items
returns-clause-items c =
    c.set_previous.ensures.items
    ∙ ap (λ (L : List Links). with_previous L c.args.parent c.args.after c.args.before)
    c.set_next.ensures.items
    ∙ link_is c.args.links.now.items c.args.parent c.args.before c.args.after c.if-parent-eq0.false
