use Rattle.std.proofs.Common.{◌≡◌, length}
use Rattle.std.specs.Prelude.{is_some}
use Rattle.gdb_packets.specs.Around.{between_marks}
use Rattle.gdb_packets.specs.Resumptions.{resumptions_in}
use Rattle.gdb_packets.proofs.Parts.{parts_behind}
use Rattle.gdb_packets.proofs.resumptions.are_parts.Given as goal

-- what is left answers as the whole
abbrev pub invariant-loop-rest : goal.invariant-loop-rest
invariant-loop-rest l =
    is_some (resumptions_in (parts_behind 59 l.rest))
    ≡ is_some (resumptions_in (between_marks 59 l.text))

abbrev pub decreases-loop-rest : goal.decreases-loop-rest
decreases-loop-rest l = length (parts_behind 59 l.rest)
