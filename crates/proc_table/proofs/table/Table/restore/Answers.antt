use Rattle.std.proofs.Common.{refl, sym, ap, ◌∙◌}
use Rattle.dos_world.specs.World.{Thread}
use Rattle.proc_table.proofs.Known.{known_restored}
use Rattle.proc_table.proofs.table.Table.restore.Goals as goal

pub returns-clause-restores : goal.returns-clause-restores
returns-clause-restores c =
    known_restored c.self.view_is c.args.tid c.get_mut-thread.ensures.is
    (ap (λ (thread : Thread). thread.saved) (sym c.thread.view_is) ∙ c.in-Some.ensures.last)
    (rw (← c.thread.view_is, c.set_held.ensures, c.restore.ensures.pending) refl)
