use Rattle.std.proofs.Common.{ap, ◌∙◌, ◌∷◌, Some, arith}
use Rattle.atomic_table.specs.Table.{rest}
use Rattle.order_place.proofs.Steps.{puts_back}
use Rattle.order_place.proofs.place.Place.put_back.Goals as goal

pub store-requires : goal.store-requires
store-requires g c =
    let w = c.args.self.now.sized.0 in
    let b = c.requires.busy in (
      c.put.ensures.table ∙ c.requires.place,
      omega arith,
      puts_back _ _ _ b.0 c.args.order _
          (c.put.ensures.seat ∙ ap (λ m. (m.0, (0, Some c.args.order) ∷ rest m.1)) b.1) b.2,
    )
