use Rattle.std.proofs.Common.{ap}
use Rattle.dos_world.specs.World.{in_state}
use Rattle.proc_table.proofs.Known.{known_in}
use Rattle.proc_table.proofs.table.Table.set_state.Goals as goal

pub returns : goal.returns
returns c = known_in c.self.view_is (in_state c.args.state) c.args.tid c.get_mut-thread.ensures.is
    (ap (in_state c.args.state) c.thread.view_is)
