use Rattle.std.proofs.Common.{◌≡◌, ◌++◌, drop, flat_map}
use Rattle.gdb_packets.specs.Hexadecimal.{register_digits}
use Rattle.debug_answers.proofs.registers.put_numbers.Given as goal

abbrev pub invariant-loop-index : goal.invariant-loop-index
invariant-loop-index l =
    l.out.items ++ flat_map register_digits (drop l.index l.regs.numbers)
    ≡ l.fn.out.items ++ flat_map register_digits l.regs.numbers
