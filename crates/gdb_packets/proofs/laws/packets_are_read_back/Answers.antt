use Rattle.gdb_packets.proofs.PacketLaws.{packet_again}
use Rattle.gdb_packets.proofs.laws.packets_are_read_back.Goals as goal

pub returns : goal.returns
returns c = packet_again
