use Rattle.std.proofs.Common.{refl, ◌<◌, sym, subst, ap, ◌∙◌, arith, None, ◌∷◌}
use Rattle.atomic_table.specs.Table.{rest}
use lib.ListN.{get_elem?}
use Rattle.hand_board.specs.Placed.{to_front, times, without}
use Rattle.hand_board.proofs.Steps.{comes_at, gives_back}
use Rattle.hand_board.proofs.Sitting.{at_table, sits_given, shows_given, gone, filled}
use Rattle.hand_board.proofs.board.Board.lay.Goals as goal

pub load-requires : goal.load-requires
load-requires g c =
    let s = c.seat.invariant in
    let p = s.positive.0 in
    let q = s.share_is in
    let w = s.sized.0 in
    let e = at_table c.seat.view_is c.requires.board c.self.view_is in
    let has = subst (λ z. 0 < times c.args.job.number z.hand)
    (sym c.seat.view_is) c.requires.hand in
    let low = s.low c.args.job.number has in let same = ap (λ z. z.words) e in (
      e,
      omega arith,
      comes_at _ _ c.self.inside.table.shared.key.value.items _ _
          c.args.job.number _ s.slots (omega arith) has,
    )

pub put-requires : goal.put-requires
put-requires g c = let t = c.load.ensures.2 c.args.job.number refl in
    record {
      table = c.load.ensures.0 ∙ at_table c.seat.view_is c.requires.board c.self.view_is;
      empty = ap (λ z. z.1) t ∙ ap (λ l. (c.args.job.number, None) ∷ rest l.1) (sym t);
    }

pub store-requires : goal.store-requires
store-requires g c = let t = c.load.ensures.2 c.args.job.number refl in
    let s = c.seat.invariant in let p = s.positive.0 in let q = s.share_is in let w = s.sized.0 in
    let e = at_table c.seat.view_is c.requires.board c.self.view_is in
    let has = subst (λ z. 0 < times c.args.job.number z.hand)
    (sym c.seat.view_is) c.requires.hand in
    let low = s.low c.args.job.number has in let same = ap (λ z. z.words) e in (
      c.put.ensures.table ∙ c.load.ensures.0 ∙ e,
      omega arith,
      gives_back _ _ c.self.inside.table.shared.key.value.items _ _ c.args.job.number c.args.word
          _ (to_front c.args.job.number c.seat.inside.seat.me.0) c.args.job.pack
          (without c.args.job.number c.seat.inside.seat.me.0.hand)
          (filled _ _ _ _ _ _ _ t c.put.ensures.seat) refl (omega arith)
          c.requires.word
          (λ x at. c.requires.pack x
          (ap (λ z. get_elem? z.opened c.args.job.number) (sym c.seat.view_is) ∙ at)),
    )

pub invariant_of-seat : goal.invariant_of-seat
invariant_of-seat g c = let t = c.load.ensures.2 c.args.job.number refl in
    sits_given _ _ _ _ _ _ _ c.args.job.number c.seat.invariant
    (c.store.ensures.0 ∙ c.put.ensures.table ∙ c.load.ensures.0)
    (gone _ _ _ _ _ _ _ _ t c.put.ensures.seat c.store.ensures.2)

pub returns : goal.returns
returns g c = let t = c.load.ensures.2 c.args.job.number refl in
    shows_given _ _ _ _ _ c.seat.inside.seat.me _ _ c.args.job.number c.seat.view_is
    (c.store.ensures.0 ∙ c.put.ensures.table ∙ c.load.ensures.0)
    (gone _ _ _ _ _ _ _ _ t c.put.ensures.seat c.store.ensures.2)
