use Rattle.log_text.proofs.TailLoop.{Walked}
use Rattle.log_text.proofs.log_reading.read_tail.Given as goal

abbrev pub invariant-loop : goal.invariant-loop
invariant-loop l = Walked l.version l.fn.end l.bytes l.rest l.progress l.counter
