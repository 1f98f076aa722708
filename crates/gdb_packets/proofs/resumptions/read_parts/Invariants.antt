use Rattle.std.proofs.Common.{◌≡◌, length}
use Rattle.gdb_packets.specs.Around.{between_marks}
use Rattle.gdb_packets.specs.Resumptions.{resumptions_in}
use Rattle.gdb_packets.proofs.Parts.{parts_behind, resumptions_and}
use Rattle.gdb_packets.proofs.resumptions.read_parts.Given as goal

-- the resumptions so far, and those of the parts that are left, are the whole
abbrev pub invariant-loop-rest : goal.invariant-loop-rest
invariant-loop-rest l =
    resumptions_and l.resumptions.items (parts_behind 59 l.rest)
    ≡ resumptions_in (between_marks 59 l.text)

abbrev pub decreases-loop-rest : goal.decreases-loop-rest
decreases-loop-rest l = length (parts_behind 59 l.rest)
