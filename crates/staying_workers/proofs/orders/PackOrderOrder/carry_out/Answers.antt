use Rattle.std.proofs.Common.{◌∙◌}
use Rattle.staying_workers.proofs.RanPacks.{still_ready}
use Rattle.staying_workers.proofs.orders.PackOrderOrder.carry_out.Goals as goal

pub invariant_of-result : goal.invariant_of-result
invariant_of-result g c = record {
  seated = (
    c.share_from-seat.ensures.same.0 ∙ c.args.self.seated.0,
    c.share_from-seat.ensures.free,
    still_ready c.share_from-seat.ensures.same.1 c.args.self.seated.2,
  );
}
