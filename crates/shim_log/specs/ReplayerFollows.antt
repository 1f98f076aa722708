-- A replayer follows itself, and following goes on.
use Rattle.std.proofs.Common.{refl, ◌∙◌, arith}
use Rattle.shim_log.specs.Replay.{ReplayState, FollowsLog}

pub log_itself : (s : ReplayState) → FollowsLog s s
log_itself s = record { log_same = refl; start_same = refl; answered_more = omega arith }

pub log_on : (s t u : ReplayState) → FollowsLog s t → FollowsLog t u → FollowsLog s u
log_on s t u p q = record {
  log_same = q.log_same ∙ p.log_same;
  start_same = q.start_same ∙ p.start_same;
  answered_more = omega (arith, p.answered_more, q.answered_more);
}
