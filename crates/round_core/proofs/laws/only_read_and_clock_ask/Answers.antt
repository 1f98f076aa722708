use Rattle.round_core.proofs.SameRun.{only_two_ask}
use Rattle.round_core.proofs.laws.only_read_and_clock_ask.Goals as goal

pub returns : goal.returns
returns c = only_two_ask
