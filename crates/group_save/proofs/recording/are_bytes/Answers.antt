use Rattle.std.proofs.Common.{arith}
use Rattle.group_save.proofs.recording.are_bytes.Goals as goal

pub returns : goal.returns
returns c = λ i. omega (arith, c.type_inv.digest i)
