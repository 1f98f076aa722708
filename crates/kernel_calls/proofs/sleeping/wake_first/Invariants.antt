use Rattle.kernel_calls.proofs.Queued.{AreWaking}
use Rattle.kernel_calls.proofs.sleeping.wake_first.Given as goal

abbrev pub invariant-loop-count : goal.invariant-loop-count
invariant-loop-count l = AreWaking l.frame l.offset l.most l.fn.table l.fn.futexes l.count l.table
    l.futexes
