use Rattle.group_text.proofs.RegisterLoop.{AreRead}
use Rattle.group_text.proofs.registers.read_numbers.Given as goal

abbrev pub invariant-loop-index : goal.invariant-loop-index
invariant-loop-index l = AreRead l.pc l.end l.bytes l.index l.regs l.rest
