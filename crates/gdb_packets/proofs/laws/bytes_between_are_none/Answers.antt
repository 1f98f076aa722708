use Rattle.gdb_packets.proofs.StreamLaws.{bytes_between}
use Rattle.gdb_packets.proofs.laws.bytes_between_are_none.Goals as goal

pub returns : goal.returns
returns c = bytes_between
