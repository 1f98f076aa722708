use Rattle.std.proofs.Common.{◌≡◌, ◌+◌, ◌*◌, ◌++◌, take}
use Rattle.arrayvec.specs.ArrayVec.{array_vec_len}
use Rattle.gdb_packets.specs.Hexadecimal.{bytes_digits}
use Rattle.gdb_packets.proofs.hexadecimal.push_bytes.Given as goal

-- the digits of the bytes so far
abbrev pub invariant-loop-byte : goal.invariant-loop-byte
invariant-loop-byte g l = record {
  items : l.to.items ≡ l.fn.to.items ++ bytes_digits (take l.byte-index l.fn.bytes);
  len : array_vec_len l.to ≡ array_vec_len l.fn.to + 2 * l.byte-index;
}
