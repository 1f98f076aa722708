use Rattle.std.proofs.Common.{refl, arith}
use Rattle.twin_shims.proofs.Tellers.{stops_follow}
use Rattle.twin_shims.proofs.leading.LeadingShim.input.Goals as goal

pub returns-in_default-clause-follows : goal.returns-in_default-clause-follows
returns-in_default-clause-follows g c = (
  refl,
  stops_follow _ _ _ _ _ _ _ _ c.stop.ensures.after refl (omega arith) (λ e. absurd cc),
)

pub returns-in-Err-clause-follows : goal.returns-in-Err-clause-follows
returns-in-Err-clause-follows g c = (
  refl,
  stops_follow _ _ _ _ _ _ _ _ c.stop-in-Err.ensures.after c.in-Err.ensures.told_err
      c.input.ensures.cause.later (λ _. c.in-Err.ensures.cause.failed),
)
