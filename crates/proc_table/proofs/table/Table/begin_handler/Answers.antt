use Rattle.std.proofs.Common.{refl}
use Rattle.dos_world.specs.Signals.{handling}
use Rattle.proc_table.proofs.Known.{known_in}
use Rattle.proc_table.proofs.table.Table.begin_handler.Goals as goal

pub returns : goal.returns
returns c = known_in c.self.view_is (handling c.args.signal c.args.handler) c.args.tid
    c.get_mut-thread.ensures.is
    (rw (← c.thread.view_is, c.set_pc.ensures, c.set.ensures, c.handle.ensures, c.from.ensures)
    refl)
