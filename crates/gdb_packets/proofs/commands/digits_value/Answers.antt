use Rattle.std.proofs.Common.{arith}
use Rattle.gdb_packets.proofs.Digits.{tens_fit}
use Rattle.gdb_packets.proofs.commands.digits_value.Goals as goal

pub overflow_mul-value : goal.overflow_mul-value
overflow_mul-value c =
    let h = tens_fit c.loop-c.value c.loop-c.c-index c.loop-c.invariant.bound (omega arith) in
    omega arith

pub overflow_add-value : goal.overflow_add-value
overflow_add-value c =
    let h = tens_fit c.loop-c.value c.loop-c.c-index c.loop-c.invariant.bound (omega arith) in
    omega (arith, c.in-Some.ensures.small, c.from.ensures)
