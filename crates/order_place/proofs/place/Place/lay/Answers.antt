use Rattle.std.proofs.Common.{ap, ◌∙◌, ◌∷◌, Some, arith}
use Rattle.atomic_table.specs.Table.{rest}
use Rattle.order_place.proofs.Steps.{lays}
use Rattle.order_place.proofs.place.Place.lay.Goals as goal

pub store-requires : goal.store-requires
store-requires g c =
    let w = c.args.self.now.sized.0 in (
      c.put.ensures.table ∙ c.requires.place,
      omega arith,
      lays _ _ _ c.args.order _
          (c.put.ensures.seat ∙ ap (λ m. (m.0, (0, Some c.args.order) ∷ rest m.1)) c.requires.free)
          c.requires.same,
    )
