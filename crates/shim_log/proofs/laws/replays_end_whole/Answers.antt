use Rattle.shim_log.proofs.ReplayLaws.{ends_whole}
use Rattle.shim_log.proofs.laws.replays_end_whole.Goals as goal

pub returns : goal.returns
returns c = ends_whole
