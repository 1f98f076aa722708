use Rattle.std.proofs.Common.{arith}
use Rattle.order_place.proofs.Steps.{takes_it}
use Rattle.order_place.proofs.place.Place.take.Goals as goal

pub compare_exchange-found-requires : goal.compare_exchange-found-requires
compare_exchange-found-requires g c =
    let w = c.args.self.now.sized.0 in
    (c.requires.place, omega arith, takes_it _ _ _ _ c.requires.idle)
