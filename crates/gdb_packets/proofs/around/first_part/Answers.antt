use Rattle.gdb_packets.proofs.Parts.{one_part, first_of_parts}
use Rattle.gdb_packets.proofs.around.first_part.Goals as goal

pub returns-in-None : goal.returns-in-None
returns-in-None c = one_part _ _ c.in-None.ensures

pub returns-in-Some : goal.returns-in-Some
returns-in-Some c = first_of_parts _ _ _ _ c.in-Some.ensures
