use Rattle.gdb_packets.proofs.StreamLaws.{frames_again}
use Rattle.gdb_packets.proofs.laws.frames_are_read_back.Goals as goal

pub returns : goal.returns
returns c = frames_again
