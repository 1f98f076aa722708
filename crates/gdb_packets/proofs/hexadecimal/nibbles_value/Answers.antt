use Rattle.std.proofs.Common.{arith}
use Rattle.gdb_packets.proofs.Digits.{bound_fits}
use Rattle.gdb_packets.proofs.hexadecimal.nibbles_value.Goals as goal

pub overflow_mul-value : goal.overflow_mul-value
overflow_mul-value c =
    let h = bound_fits c.loop-c.value c.loop-c.c-index c.loop-c.invariant.bound (omega arith) in
    omega arith

pub overflow_add-value : goal.overflow_add-value
overflow_add-value c =
    let h = bound_fits c.loop-c.value c.loop-c.c-index c.loop-c.invariant.bound (omega arith) in
    omega (arith, c.in-Some.ensures.small, c.from.ensures)
