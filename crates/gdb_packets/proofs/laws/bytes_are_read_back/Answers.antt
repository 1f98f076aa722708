use Rattle.gdb_packets.proofs.ReadBackLaws.{bytes_again}
use Rattle.gdb_packets.proofs.laws.bytes_are_read_back.Goals as goal

pub returns : goal.returns
returns c = bytes_again
