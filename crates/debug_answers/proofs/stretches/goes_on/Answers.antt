use Rattle.std.proofs.Common.{arith}
use Rattle.kernel_calls.specs.StateWorld.{world_of}
use Rattle.debug_answers.proofs.Stretching.{goes_by}
use Rattle.debug_answers.proofs.stretches.goes_on.Goals as goal

pub returns : goal.returns
returns c q =
    goes_by (world_of q c.args.state.now) c.args.last c.args.next c.is_alike.result
    (omega (arith, c.if-next-last.false))
    (omega (arith, c.if-from.false, c.from.ensures, c.from-2.ensures)) (c.is_alike.ensures q)
