use Rattle.std.proofs.Common.{◌≡◌, ◌≤◌, ◌+◌, length}
use Rattle.arrayvec.specs.ArrayVec.{array_vec_len}
use Rattle.gdb_packets.specs.Escapes.{unescaped}
use Rattle.gdb_packets.proofs.Digits.{ahead}
use Rattle.gdb_packets.proofs.escapes.read_escaped.Given as goal

-- the bytes so far, and those that are left, are the whole
abbrev pub invariant-loop-text : goal.invariant-loop-text
invariant-loop-text g l = record {
  whole : ahead l.bytes.items (unescaped l.text) ≡ unescaped l.fn.text;
  room : length l.text + array_vec_len l.bytes ≤ length l.fn.text;
}

abbrev pub decreases-loop-text : goal.decreases-loop-text
decreases-loop-text g l = length l.text
