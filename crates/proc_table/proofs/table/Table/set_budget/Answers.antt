use Rattle.std.proofs.Common.{ap}
use Rattle.dos_world.specs.World.{with_budget}
use Rattle.proc_table.proofs.Known.{known_in}
use Rattle.proc_table.proofs.table.Table.set_budget.Goals as goal

pub returns : goal.returns
returns c = known_in c.self.view_is (with_budget c.args.budget) c.args.tid
    c.get_mut-thread.ensures.is (ap (with_budget c.args.budget) c.thread.view_is)
