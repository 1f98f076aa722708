use Rattle.std.proofs.Common.{ap}
use Rattle.dos_world.specs.World.{registers_by}
use Rattle.proc_table.proofs.Known.{known_in}
use Rattle.proc_table.proofs.table.Table.set_regs.Goals as goal

pub returns : goal.returns
returns c = known_in c.self.view_is (registers_by (λ _. c.args.regs)) c.args.tid
    c.get_mut-thread.ensures.is (ap (registers_by (λ _. c.args.regs)) c.thread.view_is)
