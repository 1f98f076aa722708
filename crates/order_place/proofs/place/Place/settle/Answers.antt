use Rattle.std.proofs.Common.{ap, ◌∙◌, arith}
use Rattle.order_place.specs.Rule.{with_both}
use Rattle.order_place.proofs.Steps.{unites, settles}
use Rattle.order_place.proofs.place.Place.settle.Goals as goal

pub join_seat-requires : goal.join_seat-requires
join_seat-requires g c =
    let w = c.args.self.now.sized.0 in
    let l = c.requires.lent in (
      c.requires.place,
      c.requires.other,
      ap (λ m. m.1) c.requires.idle,
      omega arith,
      unites _ _ l.0 _ _ _ (ap (λ m. m.0) l.1) (ap (λ m. m.0) c.requires.idle),
    )

pub swap-requires : goal.swap-requires
swap-requires g c =
    let w = c.args.self.now.sized.0 in
    let l = c.requires.lent in (
      c.join_seat.ensures.0 ∙ c.requires.place,
      omega arith,
      settles _ _ _ l.0 _ (c.join_seat.ensures.2 ∙ ap (λ m. (with_both m.0, m.1)) l.1),
    )
