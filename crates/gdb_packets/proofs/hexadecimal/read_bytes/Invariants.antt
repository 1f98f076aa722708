use Rattle.std.proofs.Common.{◌≡◌, ◌+◌, ◌*◌, length}
use Rattle.arrayvec.specs.ArrayVec.{array_vec_len}
use Rattle.gdb_packets.specs.Hexadecimal.{bytes_from}
use Rattle.gdb_packets.proofs.Digits.{ahead}
use Rattle.gdb_packets.proofs.hexadecimal.read_bytes.Given as goal

-- the bytes so far, and those of the digits that are left, are the whole
abbrev pub invariant-loop-rest : goal.invariant-loop-rest
invariant-loop-rest g l = record {
  whole : ahead l.bytes.items (bytes_from l.rest) ≡ bytes_from l.text;
  room : length l.rest + 2 * array_vec_len l.bytes ≡ length l.text;
}

abbrev pub decreases-loop-rest : goal.decreases-loop-rest
decreases-loop-rest g l = length l.rest
