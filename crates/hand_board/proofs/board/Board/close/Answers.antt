use Rattle.std.proofs.Common.{ℕ, length, sym, subst, ap, ◌∙◌, arith}
use Rattle.std.specs.Mem.Slots.{slots_items}
use Rattle.hand_board.specs.Placed.{IsUnderWay}
use Rattle.hand_board.specs.Seating.{Rests, Standing}
use Rattle.hand_board.proofs.Steps.{ends}
use Rattle.hand_board.proofs.board.Board.close.Goals as goal

pub take_all-requires-clause-rest : goal.take_all-requires-clause-rest
take_all-requires-clause-rest g c =
    let f = c.close_with-closed.ensures.values.2 in
    let inv = c.seat.invariant in
    let is = c.seat.view_is in
    let share = inv.share_is ∙ ap (λ z. z.share) is ∙ c.requires.whole.0 in
    let p = inv.positive.0 in
    let opened = c.self.inside.table.shared.key.value.items in
    let says = ap length ((f.1.0.placed.knowing c.seat.inside.seat.id c.seat.inside.seat.me.0
    f.1.1).told (omega arith)) in
    let closed = c.close_with-closed.result in
    let same = ap (λ (s : Standing g.row.T.Denot). s.opened)
    (c.self.view_is ∙ sym c.of-opened.ensures) in
    subst (λ l. (i : ℕ) → Rests g.T.Part.finished
    (IsUnderWay g.T.Part.ready g.T.Part.ends g.T.Part.finished) l (slots_items closed.words)
    (slots_items closed.slots) i) same
    (ends _ _ opened f.0 f.1.0 _ _ f.1.1 share (ap (λ z. z.hand) is ∙ c.requires.whole.2)
    (λ k lt. inv.all (ap (λ z. z.ended) is ∙ c.requires.whole.1) k (omega arith)) _ _ f.2 f.4)
