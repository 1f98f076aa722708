use Rattle.std.proofs.Common.{refl}
use Rattle.dos_world.specs.Signals.{cleared}
use Rattle.proc_table.proofs.Known.{known_in}
use Rattle.proc_table.proofs.table.Table.clear_signal.Goals as goal

pub returns : goal.returns
returns c = known_in c.self.view_is (cleared c.args.signal) c.args.tid c.get_mut-thread.ensures.is
    (rw (← c.thread.view_is, c.clear.ensures) refl)
