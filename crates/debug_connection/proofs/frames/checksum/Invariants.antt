use Rattle.std.proofs.Common.{◌≡◌, take}
use Rattle.gdb_packets.specs.Framing.{checksum}
use Rattle.debug_connection.proofs.frames.checksum.Given as goal

-- the sum of the bytes so far
abbrev pub invariant-loop-byte : goal.invariant-loop-byte
invariant-loop-byte l = l.running ≡ checksum (take l.byte-index l.body)
