use Rattle.twin_shims.proofs.Orders.{sends}
use Rattle.twin_shims.proofs.line.Line.try_push.Goals as goal

pub try_push_as-requires-clause-rule : goal.try_push_as-requires-clause-rule
try_push_as-requires-clause-rule c = sends _ _ _ _ c.requires.pushes c.requires.fits
