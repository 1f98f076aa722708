use Rattle.twin_shims.proofs.Orders.{gets}
use Rattle.twin_shims.proofs.line.Line.try_pop.Goals as goal

pub try_pop_as-requires-clause-rule : goal.try_pop_as-requires-clause-rule
try_pop_as-requires-clause-rule c = gets _ _ c.requires.pops
