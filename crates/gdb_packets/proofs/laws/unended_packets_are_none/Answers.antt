use Rattle.gdb_packets.proofs.StreamLaws.{unended_packets}
use Rattle.gdb_packets.proofs.laws.unended_packets_are_none.Goals as goal

pub returns : goal.returns
returns c = unended_packets
