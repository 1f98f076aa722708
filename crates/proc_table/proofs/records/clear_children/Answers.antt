use Rattle.proc_table.specs.Links.{childless}
use Rattle.proc_table.proofs.Moved.{changed_is}
use Rattle.proc_table.proofs.records.clear_children.Goals as goal

pub returns-clause-items : goal.returns-clause-items
returns-clause-items c = changed_is childless c.args.links.now.items c.args.pid
    c.index_mut-own.result.now c.requires.0 c.requires.1 c.index_mut-own.ensures.value
