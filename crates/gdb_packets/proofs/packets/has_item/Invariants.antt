use Rattle.std.proofs.Common.{◌≡◌, length}
use Rattle.gdb_packets.specs.Around.{between_marks}
use Rattle.gdb_packets.specs.Packets.{has_item}
use Rattle.gdb_packets.proofs.Parts.{parts_behind}
use Rattle.gdb_packets.proofs.packets.has_item.Given as goal

-- what is left answers as the whole
abbrev pub invariant-loop-rest : goal.invariant-loop-rest
invariant-loop-rest l = has_item (parts_behind 59 l.rest) ≡ has_item (between_marks 59 l.text)

abbrev pub decreases-loop-rest : goal.decreases-loop-rest
decreases-loop-rest l = length (parts_behind 59 l.rest)
