use Rattle.gdb_packets.proofs.ReadBackLaws.{id_again}
use Rattle.gdb_packets.proofs.laws.ids_are_read_back.Goals as goal

pub returns : goal.returns
returns c = id_again
