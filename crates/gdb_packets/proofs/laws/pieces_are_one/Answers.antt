use Rattle.gdb_packets.proofs.StreamLaws.{pieces_are_one}
use Rattle.gdb_packets.proofs.laws.pieces_are_one.Goals as goal

pub returns : goal.returns
returns c = pieces_are_one
