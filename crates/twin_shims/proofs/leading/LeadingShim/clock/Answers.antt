use Rattle.std.proofs.Common.{refl}
use Rattle.twin_shims.proofs.Tellers.{stops_follow}
use Rattle.twin_shims.proofs.leading.LeadingShim.clock.Goals as goal

pub returns-in-Err-clause-follows : goal.returns-in-Err-clause-follows
returns-in-Err-clause-follows g c = (
  refl,
  stops_follow _ _ _ _ _ _ _ _ c.stop.ensures.after c.in-Err.ensures.told_err
      c.clock.ensures.cause.later (λ _. c.in-Err.ensures.cause.failed),
)
