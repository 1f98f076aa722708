use Rattle.shim_log.proofs.AskingCalls.{asked_until, asked_whole}
use Rattle.shim_log.proofs.laws.recordings_ask_once.Goals as goal

pub returns : goal.returns
returns c = record { whole = asked_whole; stopped = asked_until }
