use Rattle.shim_log.proofs.ReplayLaws.{goes_on}
use Rattle.shim_log.proofs.laws.replays_go_on.Goals as goal

pub returns : goal.returns
returns c = goes_on
