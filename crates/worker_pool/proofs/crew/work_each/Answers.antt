use Rattle.std.proofs.Common.{ap}
use Rattle.worker_pool.proofs.Hired.{shares-kept}
use Rattle.worker_pool.proofs.crew.work_each.Goals as goal

pub returns-clause-shares : goal.returns-clause-shares
returns-clause-shares g c =
    shares-kept c.args.crew.now c.for_each_mut.new.s c.for_each_mut.auto.s
    (λ i d low.
    let at = (c.for_each_mut.ensures i d low).1 in
    let old = ap (λ w. w.seat.share) at.argument_is in
    let new = ap (λ w. w.seat.share) at.left in
    let same = at.call.1 in
    cc)
