use Rattle.std.proofs.Common.{◌-◌, get_or, sym, ap, arith}
use Rattle.proc_table.specs.declared.record.Links.{Links}
use Rattle.proc_table.specs.Links.{links_at}
use Rattle.proc_table.proofs.Moved.{read_again}
use Rattle.proc_table.proofs.Ways.{links_read}
use Rattle.proc_table.proofs.records.last_child.Goals as goal

pub returns-then-parent-eq0 : goal.returns-then-parent-eq0
returns-then-parent-eq0 c =
    sym (ap (λ n. (links_at c.args.links.now n).last) c.if-parent-eq0.true)

pub returns : goal.returns
returns c =
    let d : Links = record { first = 0; last = 0; previous = 0; next = 0 } in
    sym (ap (λ (l : Links). l.last) (links_read c.args.links.now c.args.parent
    (get_or c.args.links.now (c.args.parent - 1) d) (omega (arith, c.if-parent-eq0.false))
    c.requires (read_again c.args.links.now (c.args.parent - 1) d
    (omega (arith, c.if-parent-eq0.false, c.requires)))))
