use Rattle.std.proofs.Common.{sym, ap}
use Rattle.std.specs.Prelude.{is_some}
use Rattle.proc_table.proofs.Shown.{stands, gone, at_in, gap_in}
use Rattle.proc_table.proofs.threads.Threads.is_thread.Goals as goal

pub returns-in-Ok : goal.returns-in-Ok
returns-in-Ok c = ap is_some
    (sym (stands c.self.view_is c.self.invariant
    (at_in c.deref.ensures.value c.in-Ok.ensures.found)))

pub returns-in-Err : goal.returns-in-Err
returns-in-Err c = ap is_some
    (sym (gone c.self.view_is c.self.invariant (gap_in c.deref.ensures.value c.in-Err.ensures.gap)))
