use Rattle.std.proofs.Common.{◌<◌, Some, None, cond, sym, ap, ◌∙◌, arith}
use Rattle.proc_table.proofs.Children.{named_is}
use Rattle.proc_table.proofs.records.named_child.Goals as goal

pub returns-then-is_child : goal.returns-then-is_child
returns-then-is_child c =
    let some : 0 < c.args.which = omega (arith, c.requires) in
    sym (named_is c.args.ended c.args.parent c.args.which c.args.records.now
    (Some c.in-Some.record) some (sym c.in-Some.ensures)
    ∙ ap (λ b. cond b (Some c.args.which) None)
    (sym c.is_child.ensures ∙ c.if-is_child.true))

pub returns-else-is_child : goal.returns-else-is_child
returns-else-is_child c =
    let some : 0 < c.args.which = omega (arith, c.requires) in
    sym (named_is c.args.ended c.args.parent c.args.which c.args.records.now
    (Some c.in-Some.record) some (sym c.in-Some.ensures)
    ∙ ap (λ b. cond b (Some c.args.which) None)
    (sym c.is_child.ensures ∙ c.if-is_child.false))

pub returns-in-None : goal.returns-in-None
returns-in-None c =
    let some : 0 < c.args.which = omega (arith, c.requires) in
    sym (named_is c.args.ended c.args.parent c.args.which c.args.records.now None some
    (sym c.in-None.ensures))
