use Rattle.proc_table.specs.Places.{kept_as}
use Rattle.proc_table.proofs.Moved.{changed_is, given_in}
use Rattle.proc_table.proofs.records.set_kept.Goals as goal

pub returns-clause-items : goal.returns-clause-items
returns-clause-items c =
    let given = given_in c.args.records.now.items c.args.number c.requires in
    changed_is (kept_as c.args.kept) c.args.records.now.items c.args.number
    c.index_mut.result.now given.0 given.1 c.index_mut.ensures.value
