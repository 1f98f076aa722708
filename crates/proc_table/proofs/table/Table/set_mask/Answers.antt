use Rattle.std.proofs.Common.{refl}
use Rattle.dos_world.specs.SignalCalls.{masked}
use Rattle.proc_table.proofs.Known.{known_in}
use Rattle.proc_table.proofs.table.Table.set_mask.Goals as goal

pub returns : goal.returns
returns c = known_in c.self.view_is (masked c.args.mask) c.args.tid c.get_mut-thread.ensures.is
    (rw (← c.thread.view_is, c.set_mask.ensures) refl)
