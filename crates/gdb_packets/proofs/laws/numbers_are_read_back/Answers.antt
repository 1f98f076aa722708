use Rattle.gdb_packets.proofs.ReadBackLaws.{number_again}
use Rattle.gdb_packets.proofs.laws.numbers_are_read_back.Goals as goal

pub returns : goal.returns
returns c = number_again
