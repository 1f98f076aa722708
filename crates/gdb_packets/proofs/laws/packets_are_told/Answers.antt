use Rattle.gdb_packets.proofs.StreamLaws.{packets_are_told}
use Rattle.gdb_packets.proofs.laws.packets_are_told.Goals as goal

pub returns : goal.returns
returns c = packets_are_told
