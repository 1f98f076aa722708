use Rattle.std.proofs.Common.{◌≡◌, ◌++◌, drop}
use Rattle.gdb_packets.specs.Hexadecimal.{bytes_digits}
use Rattle.debug_answers.proofs.texts.put_bytes_digits.Given as goal

abbrev pub invariant-loop-i : goal.invariant-loop-i
invariant-loop-i l =
    l.out.items ++ bytes_digits (drop l.i l.bytes) ≡ l.fn.out.items ++ bytes_digits l.bytes
