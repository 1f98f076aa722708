use Rattle.gdb_packets.proofs.StreamLaws.{long_packets}
use Rattle.gdb_packets.proofs.laws.long_packets_are_told.Goals as goal

pub returns : goal.returns
returns c = long_packets
