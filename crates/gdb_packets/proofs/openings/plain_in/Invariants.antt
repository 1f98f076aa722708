use Rattle.std.proofs.Common.{◌≡◌, drop}
use Rattle.gdb_packets.specs.Openings.{plain_in}
use Rattle.gdb_packets.proofs.openings.plain_in.Given as goal

-- what is left of the table answers as the whole
abbrev pub invariant-loop-plain : goal.invariant-loop-plain
invariant-loop-plain l = plain_in (drop l.plain-index l.table) l.text ≡ plain_in l.table l.text
