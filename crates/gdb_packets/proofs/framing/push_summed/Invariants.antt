use Rattle.std.proofs.Common.{◌≡◌, ◌+◌, ◌++◌, take}
use Rattle.arrayvec.specs.ArrayVec.{array_vec_len}
use Rattle.gdb_packets.specs.Framing.{checksum}
use Rattle.gdb_packets.proofs.framing.push_summed.Given as goal

-- the bytes so far, and their sum
abbrev pub invariant-loop-byte : goal.invariant-loop-byte
invariant-loop-byte g l = record {
  items : l.to.items ≡ l.fn.to.items ++ take l.byte-index l.fn.body;
  len : array_vec_len l.to ≡ array_vec_len l.fn.to + l.byte-index;
  summed : l.running ≡ checksum (take l.byte-index l.fn.body);
}
