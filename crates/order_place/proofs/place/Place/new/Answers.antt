use Rattle.std.proofs.Common.{ap, ◌∙◌, arith}
use Rattle.order_place.proofs.Steps.{opened, divides}
use Rattle.order_place.proofs.place.Place.new.Goals as goal

pub load-requires : goal.load-requires
load-requires g c =
    let o = c.in-Ok.ensures in
    let w = o.0 in
    (o.2, omega arith, opened _ _ _ _ o.4)

pub split_seat-other-requires : goal.split_seat-other-requires
split_seat-other-requires g c =
    let o = c.in-Ok.ensures in
    let w = o.0 in
    let l = c.load.ensures in
    (l.0 ∙ o.2, omega arith, divides _ _ _ (ap (λ m. m.0) l.2))
