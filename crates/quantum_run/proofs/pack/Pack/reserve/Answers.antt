use Rattle.std.proofs.Common.{vec_capacity, rules}
use Rattle.quantum_run.proofs.Keeping.{packed-empty}
use Rattle.quantum_run.proofs.pack.Pack.reserve.Goals as goal

-- src/pack.rt:54:9
pub invariant_of-result : goal.invariant_of-result
invariant_of-result c = let e =
    packed-empty c.args.frames (vec_capacity c.in_ok-with_capacity.field-0) in search (rules, e)
