use Rattle.std.proofs.Common.{◌≡◌, ◌≤◌, ◌+◌, ◌*◌, ◌++◌, take}
use Rattle.arrayvec.specs.ArrayVec.{array_vec_len}
use Rattle.gdb_packets.specs.Escapes.{escaped}
use Rattle.gdb_packets.proofs.escapes.push_escaped.Given as goal

-- the bytes so far, with their escapes
abbrev pub invariant-loop-byte : goal.invariant-loop-byte
invariant-loop-byte g l = record {
  items : l.to.items ≡ l.fn.to.items ++ escaped (take l.byte-index l.fn.bytes);
  len : array_vec_len l.to ≤ array_vec_len l.fn.to + 2 * l.byte-index;
}
