use Rattle.std.proofs.Common.{arith}
use Rattle.std.proofs.lemmas.List.{get_or_default}
use Rattle.kernel_calls.proofs.reading.are_bytes.Goals as goal

pub returns : goal.returns
returns c = λ k d lt. omega (arith, c.type_inv.bytes k, get_or_default c.args.bytes.now k d 0 lt)
