use Rattle.kernel_mem.proofs.MapRun.{IsFilling}
use Rattle.kernel_mem.proofs.map.map_run.Given as goal

abbrev pub invariant-loop-index : goal.invariant-loop-index
invariant-loop-index l = IsFilling l.fn.frames l.fn.table l.tid l.pid l.page l.rights l.count
    l.index l.frames l.table
