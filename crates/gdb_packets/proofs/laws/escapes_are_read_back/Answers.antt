use Rattle.gdb_packets.proofs.EscapeLaws.{escapes_again}
use Rattle.gdb_packets.proofs.laws.escapes_are_read_back.Goals as goal

pub returns : goal.returns
returns c = escapes_again
