use Rattle.kernel_mem.proofs.Loops.{IsCopying}
use Rattle.kernel_mem.proofs.forking.copy_space.Given as goal

abbrev pub invariant-loop-index : goal.invariant-loop-index
invariant-loop-index l = IsCopying l.fn.frames l.fn.table l.pid l.child l.tid l.index l.frames
    l.table
