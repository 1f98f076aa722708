use Rattle.shim_log.proofs.ReplayLaws.{stands_next}
use Rattle.shim_log.proofs.laws.misfits_stand_next.Goals as goal

pub returns : goal.returns
returns c = stands_next
