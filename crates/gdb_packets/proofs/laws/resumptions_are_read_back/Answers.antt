use Rattle.gdb_packets.proofs.ResumptionLaws.{resumptions_again}
use Rattle.gdb_packets.proofs.laws.resumptions_are_read_back.Goals as goal

pub returns : goal.returns
returns c = resumptions_again
