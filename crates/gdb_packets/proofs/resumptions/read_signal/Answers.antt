use Rattle.std.proofs.Common.{ℕ, ◌<◌, ◌^◌, subst, arith}
use Rattle.gdb_packets.proofs.resumptions.read_signal.Goals as goal

pub overflow_cast-result : goal.overflow_cast-result
overflow_cast-result c =
    let P : ℕ → Type 0 = λ n. c.in-Some.signal < 16 ^ n in
    let small : c.in-Some.signal < 16 ^ 2 = subst P c.if-text-ne2.false c.in-Some.ensures.bound in
    omega arith
