use Rattle.std.proofs.Common.{◌≡◌, ◌++◌, drop}
use Rattle.debug_session.specs.Lists.{commas}
use Rattle.debug_answers.proofs.threads.put_commas.Given as goal

abbrev pub invariant-loop-i : goal.invariant-loop-i
invariant-loop-i l = l.out.items ++ commas (drop l.i l.pairs) ≡ l.fn.out.items ++ commas l.pairs
