use Rattle.std.proofs.Common.{◌≡◌, drop}
use Rattle.gdb_packets.specs.Openings.{opening_in}
use Rattle.gdb_packets.proofs.openings.opening_in.Given as goal

-- what is left of the table answers as the whole
abbrev pub invariant-loop-opening : goal.invariant-loop-opening
invariant-loop-opening l =
    opening_in (drop l.opening-index l.table) l.text ≡ opening_in l.table l.text
