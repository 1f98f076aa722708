use Rattle.std.proofs.Common.{refl}
use Rattle.dos_world.specs.Kernel.{pending_with}
use Rattle.proc_table.proofs.Known.{known_in}
use Rattle.proc_table.proofs.table.Table.post.Goals as goal

pub returns : goal.returns
returns c = known_in c.self.view_is (pending_with c.args.signal) c.args.tid
    c.get_mut-thread.ensures.is (rw (← c.thread.view_is, c.post.ensures) refl)
