use Rattle.std.proofs.Common.{arith}
use Rattle.debug_connection.proofs.Fronts.{on_err, front_vector}
use Rattle.debug_connection.proofs.frames.put_all.Goals as goal

pub returns-in_err-put-clause-err : goal.returns-in_err-put-clause-err
returns-in_err-put-clause-err g c =
    on_err c.from_residual.result _
    (front_vector _ _ _ c.args.frames.now c.loop-frame.frame-index c.frame-item.result _
    (omega arith) c.frame-item.is c.deref.ensures.value c.loop-frame.invariant.told
    c.in_err-put.ensures.err)
