use Rattle.std.proofs.Common.{arith}
use Rattle.dos_words.proofs.Decimals.{bound_fits}
use Rattle.dos_words.proofs.number.decimal_value.Goals as goal

pub overflow_mul-value : goal.overflow_mul-value
overflow_mul-value c = let h =
    bound_fits c.loop-digit.value c.loop-digit.digit-index c.loop-digit.invariant.bound
    (omega arith) in omega arith
