use Rattle.std.proofs.Common.{sym}
use Rattle.proc_table.proofs.Children.{lowest_found, lowest_missing}
use Rattle.proc_table.proofs.records.lowest_child.Goals as goal

pub returns-in-Some : goal.returns-in-Some
returns-in-Some c = lowest_found c.args.ended c.args.parent c.in-Some.place c.args.records.now
    (sym c.in-Some.ensures)

pub returns-in-None : goal.returns-in-None
returns-in-None c = lowest_missing c.args.ended c.args.parent c.args.records.now
    (sym c.in-None.ensures)
