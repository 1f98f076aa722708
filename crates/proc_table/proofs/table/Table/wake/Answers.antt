use Rattle.std.proofs.Common.{refl}
use Rattle.dos_world.specs.Kernel.{awake}
use Rattle.proc_table.proofs.Known.{known_in}
use Rattle.proc_table.proofs.table.Table.wake.Goals as goal

pub returns : goal.returns
returns c = known_in c.self.view_is (awake c.args.value) c.args.tid c.get_mut-thread.ensures.is
    (rw (← c.thread.view_is, c.set_pc.ensures, c.set.ensures, c.pc-next.ensures) refl)
