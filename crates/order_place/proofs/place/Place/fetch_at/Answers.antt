use Rattle.std.proofs.Common.{arith}
use Rattle.order_place.proofs.Steps.{fetches}
use Rattle.order_place.proofs.place.Place.fetch_at.Goals as goal

pub compare_exchange-found-requires : goal.compare_exchange-found-requires
compare_exchange-found-requires g c =
    let w = c.args.self.now.sized.0 in
    let l = c.requires.lent in (
      c.requires.place,
      omega arith,
      fetches _ _ _ c.args.word l.0 _ l.1 c.requires.word.0 c.requires.word.1,
    )
